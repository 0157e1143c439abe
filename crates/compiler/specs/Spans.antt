-- Spans: the part of a loop range that a board goes through. In the field's words, the reduced bounds of a loop under
-- the rule that the owner computes. Assumes nothing.
use Rattle.std.specs.Prelude.{ℕ, ◌+◌, ◌-◌, ◌/◌, ◌%◌, Bool, true, cond, ◌&&◌, List, [], ◌∷◌, map, Some, None, Option, ◌==◌, nat_le}
use Rattle.std.specs.List.{range_with_len}
use Rattle.nest.specs.Terms.{position}
use Rattle.nest.specs.declared.terms.Access.{Access}
use Rattle.nest.specs.declared.terms.Range.{Range}
use Rattle.nest.specs.declared.terms.Subscript.{Subscript}
use Rattle.nest.specs.declared.terms.Variable.{Variable}
use Rattle.nest.specs.declared.terms.Variable.TheVariants.{I, J}
use Rattle.owner_map.specs.Meaning.{Deal, owner, below, position as position_of}
use Rattle.dealing.specs.declared.dimension.Dimension.{Dimension}
use Rattle.dealing.specs.declared.dimension.Dimension.TheVariants.{Rows, Columns}
use Rattle.sections.specs.Sections.{Deals, rows_of, columns_of}
use Rattle.sequential.specs.Iterations.{values_of}
use Rattle.compiler.specs.declared.span.Owning.{Owning}
use Rattle.compiler.specs.declared.span.Span.{Span}

-- a board of a nest whose arrays are dealt out: the grid's rows, the deals, the board's number
pub record Seat : Type 0 where
  pub grid_rows : ℕ
  pub deals : Deals
  pub board : ℕ

abbrev pub seat : ℕ → Deals → ℕ → Seat
seat q deals p = record { grid_rows = q; deals = deals; board = p }

-- how a dimension of array t is dealt, and which board of that deal a board of the grid is: its row in the grid for rows,
-- its column for columns
abbrev pub deal_in : Dimension → Deals → ℕ → Deal
deal_in Rows deals t = rows_of deals t
deal_in Columns deals t = columns_of deals t

abbrev pub coordinate : Dimension → ℕ → ℕ → ℕ
coordinate Rows q p = p % q
coordinate Columns q p = p / q

abbrev pub deal_for : Seat → Owning → Deal
deal_for b o = deal_in o.dimension b.deals o.array

abbrev pub self_for : Seat → Owning → ℕ
self_for b o = coordinate o.dimension b.grid_rows b.board

-- the span over a loop range: a plain one, which nothing owns, has the loop values; an owned one has the board's ranks, from
-- the number of its positions below the first that the loop reaches, up to the number below one past the last
abbrev pub span_of : Seat → Option Owning → Range → Span
span_of b None r = record { owning = None; first = r.low; end = r.high + 1 }
span_of b (Some o) r = record {
  owning = Some o;
  first = below (deal_for b o) (self_for b o) (position o.subscript r.low);
  end = below (deal_for b o) (self_for b o) (position o.subscript r.high + 1);
}

-- the numbers of a span
abbrev pub numbers_of : Span → List ℕ
numbers_of s = range_with_len s.first (s.end - s.first)

-- the first of some loop values that a subscript takes to position x, or none
abbrev pub value_to : Subscript → ℕ → List ℕ → Option ℕ
value_to s x [] = None
value_to s x (v ∷ vs) = cond (position s v == x) (Some v) (value_to s x vs)

-- the loop value of a position that a board may have; where it has none there is no loop value either
abbrev pub value_at : Subscript → Range → Option ℕ → Option ℕ
value_at s r None = None
value_at s r (Some x) = value_to s x (values_of r)

-- the loop value at a number of a span over a loop range; without one the cell is idle
abbrev pub value_in : Seat → Range → Option Owning → ℕ → Option ℕ
value_in b r None n = Some n
value_in b r (Some o) n = value_at o.subscript r (position_of (deal_for b o) (self_for b o) n)

-- the loop values of a span, one for each of its numbers
abbrev pub span_values : Seat → Range → Span → List (Option ℕ)
span_values b r s = map (value_in b r s.owning) (numbers_of s)

-- whether the board owns the position that a loop value reaches; a plain span asks nothing
abbrev pub owns_value : Seat → Option Owning → ℕ → Bool
owns_value b None v = true
owns_value b (Some o) v = (owner (deal_for b o) (position o.subscript v)) == self_for b o

-- the subscript of an access in a dimension, and what owns a span by it
abbrev pub subscript_in : Dimension → Access → Subscript
subscript_in Rows a = a.row
subscript_in Columns a = a.column

abbrev pub owning_by : Dimension → Access → Owning
owning_by d a = record { array = a.array; dimension = d; subscript = subscript_in d a }

abbrev pub same_variable : Variable → Variable → Bool
same_variable I I = true
same_variable I J = mathlib.Core.Bool.false
same_variable J I = mathlib.Core.Bool.false
same_variable J J = true

-- a subscript moves with a variable: it uses the variable, with a factor of at least 1
abbrev pub moves_with : Variable → Subscript → Bool
moves_with v s = same_variable v s.variable && nat_le 1 s.factor

-- what owns the ship span of a variable: the rows of the read if they move with it, else its columns, else nothing
abbrev pub ship_owning : Variable → Access → Option Owning
ship_owning v a = cond (moves_with v a.row) (Some (owning_by Rows a)) (cond (moves_with v a.column) (Some (owning_by Columns a)) None)
