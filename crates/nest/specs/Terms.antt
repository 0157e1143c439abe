-- What the parts of a nest mean. Assumes nothing.
use Rattle.std.specs.Prelude.{ℕ, ◌+◌, ◌-◌, ◌*◌, Bool, ◌&&◌, List, nat_le}
use Rattle.nest.specs.declared.terms.Grid.{Grid}
use Rattle.nest.specs.declared.terms.MapWord.TheVariants.{One}
use Rattle.nest.specs.declared.terms.Array.{Array}
use Rattle.nest.specs.declared.terms.Mode.{Mode}
use Rattle.nest.specs.declared.terms.Range.{Range}
use Rattle.nest.specs.declared.terms.Variable.{Variable}
use Rattle.nest.specs.declared.terms.Variable.TheVariants.{I, J}
use Rattle.nest.specs.declared.terms.Offset.{Offset}
use Rattle.nest.specs.declared.terms.Offset.TheVariants.{Plus, Minus}
use Rattle.nest.specs.declared.terms.Subscript.{Subscript}
use Rattle.nest.specs.declared.terms.Access.{Access}
use Rattle.nest.specs.declared.terms.ReadTerm.{ReadTerm}

-- how far an offset moves
abbrev pub far : Offset → ℕ
far (Plus c) = c
far (Minus c) = c

-- what a number becomes by an offset; it stops at 0, which is no position
abbrev pub moved : Offset → ℕ → ℕ
moved (Plus c) n = n + c
moved (Minus c) n = n - c

-- the position that a subscript names at a value of its variable
abbrev pub position : Subscript → ℕ → ℕ
position s v = moved s.offset (s.factor * v)

-- what a number becomes before anything is taken away from it
abbrev pub raised : Offset → ℕ → ℕ
raised (Plus c) n = n + c
raised (Minus c) n = n

-- the greatest number on the way to the position that a subscript names
abbrev pub reach : Subscript → ℕ → ℕ
reach s v = raised s.offset (s.factor * v)

-- of what belongs to i and what belongs to j, what belongs to a variable
abbrev pub pick : {X : Type 0} → Variable → X → X → X
pick I i j = i
pick J i j = j

-- the range that a variable runs through
abbrev pub range_of : Variable → Range → Range → Range
range_of v i j = pick v i j

-- positions grow with the variable, so the ends decide whether all lie from 1 to size
abbrev pub inside : Range → Range → ℕ → Subscript → Bool
inside i j size s =
    nat_le 1 (position s (range_of s.variable i j).low) && nat_le (position s (range_of s.variable i j).high) size

-- an array that is not there has no size
abbrev pub nowhere : Array
nowhere = record { rows = 0; columns = 0; row_map = One; column_map = One }

-- a statement, with its reads as a list
pub record Said : Type 0 where
  pub mode : Mode
  pub i : Range
  pub j : Range
  pub put : Access
  pub base : ℕ
  pub reads : List ReadTerm

-- a nest, with its parts as lists
pub record Sheet : Type 0 where
  pub grid : Grid
  pub arrays : List Array
  pub sweeps : ℕ
  pub statements : List Said
