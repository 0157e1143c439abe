-- The iterations of a statement, and the elements that it names in each. Assumes nothing.
use Rattle.std.specs.Prelude.{ℕ, ◌+◌, ◌-◌, List, map}
use Rattle.std.specs.List.{range_with_len, flat_map}
use Rattle.nest.specs.Terms.{position}
use Rattle.nest.specs.declared.terms.Array.{Array}
use Rattle.nest.specs.declared.terms.Range.{Range}
use Rattle.nest.specs.declared.terms.Variable.{Variable}
use Rattle.nest.specs.declared.terms.Variable.TheVariants.{I, J}
use Rattle.nest.specs.declared.terms.Subscript.{Subscript}
use Rattle.nest.specs.declared.terms.Access.{Access}
use Rattle.layout.specs.Places.{place_of}
use Rattle.sequential.specs.declared.iteration.Iteration.{Iteration}

-- the values of a loop variable in order, both ends included
abbrev pub values_of : Range → List ℕ
values_of r = range_with_len r.low (r.high + 1 - r.low)

-- the iterations with one i, in the order of j
abbrev pub row_of : List ℕ → ℕ → List Iteration
row_of js i = map (λ j. record { i = i; j = j }) js

-- the iterations in order, i slowest
abbrev pub iterations : Range → Range → List Iteration
iterations i j = flat_map (row_of (values_of j)) (values_of i)

-- the value of a loop variable in an iteration
abbrev pub variable_in : Variable → Iteration → ℕ
variable_in I e = e.i
variable_in J e = e.j

-- the position that a subscript names in an iteration
abbrev pub position_in : Subscript → Iteration → ℕ
position_in s e = position s (variable_in s.variable e)

-- where the element lies that an access names in an iteration
abbrev pub place_in : List Array → Access → Iteration → ℕ
place_in arrays a e = place_of arrays a.array (position_in a.row e) (position_in a.column e)
