-- What the parts of a run go by: everything they read or write is there. Assumes nothing.
use Rattle.std.specs.Prelude.{◌≡◌, ℕ, ◌≤◌, true, List, length}
use Rattle.std.specs.Borrow.{MutBor}
use Rattle.nest.specs.Terms.{far, Said}
use Rattle.nest.specs.Sound.{each, statement_kept}
use Rattle.nest.specs.declared.terms.Array.{Array}
use Rattle.nest.specs.declared.terms.Subscript.{Subscript}
use Rattle.nest.specs.declared.terms.Access.{Access}
use Rattle.layout.specs.Places.{IsElement, total}
use Rattle.sequential.specs.declared.iteration.Iteration.{Iteration}
use Rattle.sequential.specs.Iterations.{variable_in, position_in}
use Rattle.sequential.specs.Run.{Buffers, buffers_of}

-- i and j lie in the ranges of a statement
abbrev pub Within : Said → Iteration → Type 0
Within s e = (s.i.low ≤ e.i) × (e.i ≤ s.i.high) × (s.j.low ≤ e.j) × (e.j ≤ s.j.high)

-- small numbers, of which no position overflows
abbrev pub SmallIn : Subscript → Iteration → Type 0
SmallIn s e = (s.factor ≤ 4) × (variable_in s.variable e ≤ 32) × (far s.offset ≤ 64)

-- an access names an element in an iteration
pub record Reached (arrays : List Array) (a : Access) (e : Iteration) : Type 0 where
  pub element : IsElement arrays a.array (position_in a.row e) (position_in a.column e)
  pub row : SmallIn a.row e
  pub column : SmallIn a.column e

-- buffers of the arrays' length
pub record Lent (arrays : List Array) (elements held : ℕ) : Type 0 where
  pub elements_all : elements ≡ total arrays
  pub held_all : held ≡ total arrays

-- a step may be taken in every iteration of a statement, on buffers of the arrays' length
abbrev pub MayStep : {V : Type 0} → List Array → Said → (Iteration → MutBor (List V) → MutBor (List V) → Type 0) → Type 0
MayStep arrays s may =
    (e : Iteration) (elements held : _) → Within s e → Lent arrays (length elements.now) (length held.now) → may e elements held

-- wherever it may be taken, a step does to the buffers what f says
abbrev pub StepsBy : {V : Type 0} → List Array → Said
    → (Iteration → MutBor (List V) → MutBor (List V) → Unit {0} → MutBor (List V) → MutBor (List V) → Type 0)
    → (Buffers V → Iteration → Buffers V) → Type 0
StepsBy arrays s does f =
    (e : Iteration) (elements held elements_after held_after : _) → Within s e → Lent arrays (length elements.now) (length held.now)
    → does e elements held tt elements_after held_after
    → buffers_of elements_after.now held_after.now ≡ f (buffers_of elements.now held.now) e

-- statements that keep their ranges, eight coefficients, and buffers of the arrays' length
pub record AllReady (arrays : List Array) (statements : List Said) (coefficients elements held : ℕ) : Type 0 where
  pub kept : each (statement_kept arrays) statements ≡ true
  pub eight : coefficients ≡ 8
  pub elements_all : elements ≡ total arrays
  pub held_all : held ≡ total arrays
