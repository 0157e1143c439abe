-- When a board's orders can be made: every number stays small, and every question to a map has an answer. Only the private
-- code goes by these. Assumes nothing.
use Rattle.std.specs.Prelude.{◌≡◌, ℕ, ◌+◌, ◌<◌, ◌≤◌, true, List, length, Option, Some, None}
use Rattle.std.specs.List.{AllByRecursion}
use Rattle.nest.specs.Sound.{statement_kept, nest_kept}
use Rattle.nest.specs.Terms.{far, position, Said, Sheet}
use Rattle.nest.specs.declared.terms.Range.{Range}
use Rattle.nest.specs.declared.terms.Subscript.{Subscript}
use Rattle.owner_map.specs.Meaning.{Board, Bound}
use Rattle.sections.specs.DealtNests.{DealtNest, NestFits}
use Rattle.compiler.specs.declared.order.Task.{Task}
use Rattle.compiler.specs.declared.span.Owning.{Owning}
use Rattle.compiler.specs.Spans.{Seat, seat, deal_for, self_for}
use Rattle.compiler.specs.Orders.{i_owning, j_owning}
use Rattle.compiler.specs.Totals.{boards_of}

-- a board of a nest whose arrays are dealt out
abbrev pub seat_in : DealtNest → ℕ → Seat
seat_in d p = seat d.nest.grid.rows d.deals p

-- the nest keeps its ranges, the deals fit it, and the board is one of its grid
pub record Seated (d : DealtNest) (p : ℕ) : Type 0 where
  pub kept : nest_kept d.nest.grid d.nest.arrays d.nest.sweeps d.nest.statements ≡ true
  pub fits : NestFits d
  pub there : p < boards_of d.nest.grid

-- the position of a subscript at a loop value is a small number
abbrev pub SmallAt : Subscript → ℕ → Type 0
SmallAt s v = (s.factor ≤ 4) × (v ≤ 32) × (far s.offset ≤ 64)

-- the array is dealt out, and the deal of its dimension tells how many positions the board has below a bound
abbrev pub Countable : Seat → Owning → ℕ → Type 0
Countable b o bound =
    (1 ≤ b.grid_rows) × (o.array < length b.deals.rows) × (o.array < length b.deals.columns)
    × Board (deal_for b o) (self_for b o) × Bound (deal_for b o) bound

-- the positions that a loop range reaches are small, and can be counted
abbrev pub Reachable : Seat → Owning → Range → Type 0
Reachable b o r =
    SmallAt o.subscript r.low × SmallAt o.subscript r.high
    × Countable b o (position o.subscript r.low) × Countable b o (position o.subscript r.high + 1)

-- a span that is owned so, or a plain one, can be made over the loop range
abbrev pub Spannable : Seat → Option Owning → Range → Type 0
Spannable b None r = r.high ≤ 32
Spannable b (Some o) r = Reachable b o r

-- both spans of a task can be made
abbrev pub Orderable : Seat → Said → Task → Type 0
Orderable b s t = Spannable b (i_owning s t) s.i × Spannable b (j_owning s t) s.j

-- so can those of every task of a list
abbrev pub AllOrderable : Seat → Said → List Task → Type 0
AllOrderable b s ts = AllByRecursion (Orderable b s) ts

-- the statement keeps the ranges of the sheet
abbrev pub KeptIn : Sheet → Said → Type 0
KeptIn n s = statement_kept n.arrays s ≡ true
