-- What the ranges of a nest mean: in each iteration, every element that a statement names lies inside its array. Assumes nothing.
use Rattle.std.specs.Prelude.{ℕ, ◌<◌, ◌≤◌, List, length, slice_index_or}
use Rattle.std.specs.List.{AllByRecursion}
use Rattle.nest.specs.declared.terms.Array.{Array}
use Rattle.nest.specs.declared.terms.Range.{Range}
use Rattle.nest.specs.declared.terms.Variable.{Variable}
use Rattle.nest.specs.declared.terms.Access.{Access}
use Rattle.nest.specs.Terms.{pick, position, nowhere, Said, Sheet}

-- a value that a range runs through
abbrev pub RunsThrough : Range → ℕ → Type 0
RunsThrough r v = (r.low ≤ v) × (v ≤ r.high)

-- the value of a variable in the iteration i, j
abbrev pub value_of : Variable → ℕ → ℕ → ℕ
value_of v i j = pick v i j

-- a position from 1 to a size
abbrev pub Within : ℕ → ℕ → Type 0
Within size p = (1 ≤ p) × (p ≤ size)

-- in the iteration i, j an access names an array that is there, and a row and a column of it
pub record Reaches (arrays : List Array) (i j : ℕ) (a : Access) : Type 0 where
  pub there : a.array < length arrays
  pub row : Within (slice_index_or arrays a.array nowhere).rows (position a.row (value_of a.row.variable i j))
  pub column : Within (slice_index_or arrays a.array nowhere).columns (position a.column (value_of a.column.variable i j))

-- in every iteration of a statement, its target and each of its reads
pub record StatementInside (arrays : List Array) (s : Said) : Type 0 where
  pub target : (i j : ℕ) → RunsThrough s.i i → RunsThrough s.j j → Reaches arrays i j s.put
  pub reads : AllByRecursion (λ r. (i j : ℕ) → RunsThrough s.i i → RunsThrough s.j j → Reaches arrays i j r.source) s.reads

-- every statement of the nest
abbrev pub StaysInside : Sheet → Type 0
StaysInside nest = AllByRecursion (StatementInside nest.arrays) nest.statements
