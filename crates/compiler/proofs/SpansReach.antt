-- The spans of a kept statement can be made: every position that a loop range reaches lies in its deal. Assumes nothing.
use Rattle.std.proofs.Common.{◌≡◌, ℕ, zero, suc, ◌+◌, ◌*◌, ◌<◌, ◌≤◌, Bool, true, false, cond, leb, List, [], ◌∷◌, map, length, get_or, refl, ap, ◌∙◌, mul_comm, zero-mul, arith, Option, Some, None}
use Rattle.std.proofs.lemmas.Nat.{div_below, mod_below}
use Rattle.std.proofs.ByRecursion.{All-append}
use Rattle.std.proofs.lemmas.Bool.{and_parts}
use Rattle.nest.specs.Sound.{each, range_kept, access_kept, read_kept, statement_kept}
use Rattle.nest.specs.Terms.{far, position, range_of, inside, nowhere, Said}
use Rattle.nest.specs.declared.terms.Access.{Access}
use Rattle.nest.specs.declared.terms.Range.{Range}
use Rattle.nest.specs.declared.terms.ReadTerm.{ReadTerm}
use Rattle.nest.specs.declared.terms.Subscript.{Subscript}
use Rattle.nest.specs.declared.terms.Variable.{Variable}
use Rattle.nest.specs.declared.terms.Variable.TheVariants.{I, J}
use Rattle.owner_map.specs.Meaning.{Deal, Board, Bound, extent}
use Rattle.sections.specs.DealtNests.{DealtNest}
use Rattle.sections.specs.Sections.{DealsOut}
use Rattle.sequential.specs.Iterations.{variable_in, position_in}
use Rattle.sequential.specs.Ready.{Within}
use Rattle.sequential.specs.declared.iteration.Iteration.{Iteration}
use Rattle.sequential.proofs.Kept.{Parts, parts_of, range_of_lem, factor_of, access_parts, inside_at}
use Rattle.dealing.specs.declared.dimension.Dimension.{Dimension}
use Rattle.dealing.specs.declared.dimension.Dimension.TheVariants.{Rows, Columns}
use Rattle.compiler.specs.declared.span.Owning.{Owning}
use Rattle.compiler.specs.declared.order.Task.TheVariants.{Ship, Base, Add}
use Rattle.compiler.specs.Spans.{Seat, deal_in, coordinate, subscript_in, owning_by, moves_with, ship_owning}
use Rattle.compiler.specs.Orders.{tasks_of}
use Rattle.compiler.proofs.TaskSpans.{size_in, boards_in, is_i_lem, is_j, moves_by}
use Rattle.compiler.specs.Making.{seat_in, Seated, Spannable, Orderable, AllOrderable}

-- a grid with a board has a row
row_some : (r c p : ℕ) → p < r * c → 1 ≤ r
row_some zero c p h = absurd (omega (arith, zero-mul c))
row_some (suc r) c p h = omega arith

-- of two kinds, the one that a test takes
spannable_cond : (b : Seat) (t : Bool) (k l : Option Owning) (r : Range) → (t ≡ true → Spannable b k r) → Spannable b l r → Spannable b (cond t k l) r
spannable_cond b true k l r h o = h refl
spannable_cond b false k l r h o = o

-- positions from 1 to the extent, and one past them, are bounds
bounds : (d : Deal) (boards size b low high : ℕ) → b < boards → d.boards ≡ boards → extent d ≡ size → 1 ≤ low → low ≤ size → high ≤ size → Board d b × Bound d low × Bound d (high + 1)
bounds d boards size b low high l eb es one up to = (omega arith, (omega arith, omega arith), (omega arith, omega arith))

module _ (d : DealtNest) (p : ℕ) (seated : Seated d p) (s : Said) (kept : statement_kept d.nest.arrays s ≡ true) where
  abbrev board : Seat
  board = seat_in d p

  parts : Parts d.nest.arrays s
  parts = parts_of d.nest.arrays s kept

  -- the first iteration and the last
  abbrev lowest : Iteration
  lowest = record { i = s.i.low; j = s.j.low }

  abbrev highest : Iteration
  highest = record { i = s.i.high; j = s.j.high }

  lowest_within : Within s lowest
  lowest_within =
      let i = range_of_lem s.i parts.i in
      let j = range_of_lem s.j parts.j in
      (omega arith, omega arith, omega arith, omega arith)

  highest_within : Within s highest
  highest_within =
      let i = range_of_lem s.i parts.i in
      let j = range_of_lem s.j parts.j in
      (omega arith, omega arith, omega arith, omega arith)

  -- the grid's dimensions, and where the board stands in them
  some_row : 1 ≤ d.nest.grid.rows
  some_row = row_some d.nest.grid.rows d.nest.grid.columns p seated.there

  board_in : (v : Dimension) → coordinate v d.nest.grid.rows p < boards_in v d.nest.grid
  board_in Rows = mod_below p d.nest.grid.rows some_row
  board_in Columns = div_below p d.nest.grid.rows d.nest.grid.columns some_row (omega (arith, seated.there, mul_comm d.nest.grid.rows d.nest.grid.columns))

  dealt_in : (v : Dimension) (t : ℕ) → t < length d.nest.arrays → DealsOut (deal_in v d.deals t) (boards_in v d.nest.grid) (size_in v (get_or d.nest.arrays t nowhere))
  dealt_in Rows t h = (seated.fits.2 t h).0
  dealt_in Columns t h = (seated.fits.2 t h).1

  module _ (v : Variable) where
    abbrev range : Range
    range = range_of v s.i s.j

    range_kept_lem : (w : Variable) → range_kept (range_of w s.i s.j) ≡ true
    range_kept_lem I = parts.i
    range_kept_lem J = parts.j

    small_range : (range.low ≤ 32) × (range.high ≤ 32)
    small_range = let r = range_of_lem range (range_kept_lem v) in (omega arith, omega arith)

    at_lowest : (w : Variable) → variable_in w lowest ≡ (range_of w s.i s.j).low
    at_lowest I = refl
    at_lowest J = refl

    at_highest : (w : Variable) → variable_in w highest ≡ (range_of w s.i s.j).high
    at_highest I = refl
    at_highest J = refl

    -- at either end of its loop range a subscript is inside the size
    ends_inside : (size : ℕ) (x : Subscript) → x.variable ≡ v → inside s.i s.j size x ≡ true
        → (1 ≤ position x range.low) × (position x range.low ≤ size) × (position x range.high ≤ size)
    ends_inside size x e k =
        let a = inside_at d.nest.arrays s parts lowest lowest_within size x k in
        let b = inside_at d.nest.arrays s parts highest highest_within size x k in
        let first : position_in x lowest ≡ position x range.low = ap (λ w. position x (variable_in w lowest)) e ∙ ap (position x) (at_lowest v) in
        let last : position_in x highest ≡ position x range.high = ap (λ w. position x (variable_in w highest)) e ∙ ap (position x) (at_highest v) in
        (omega arith, omega arith, omega arith)

    module _ (least : ℕ) (a : Access) (k : access_kept least d.nest.arrays s.i s.j a ≡ true) where
      subscript_small : (v' : Dimension) → ((subscript_in v' a).factor ≤ 4) × (far (subscript_in v' a).offset ≤ 64)
      subscript_small Rows = let f = factor_of least a.row (access_parts least d.nest.arrays s.i s.j a k).row in (f.1, f.2)
      subscript_small Columns = let f = factor_of least a.column (access_parts least d.nest.arrays s.i s.j a k).column in (f.1, f.2)

      subscript_inside : (v' : Dimension) → inside s.i s.j (size_in v' (get_or d.nest.arrays a.array nowhere)) (subscript_in v' a) ≡ true
      subscript_inside Rows = (access_parts least d.nest.arrays s.i s.j a k).rows
      subscript_inside Columns = (access_parts least d.nest.arrays s.i s.j a k).columns

      -- an access by a dimension that goes by the variable
      pub dimension_spannable : (v' : Dimension) → (subscript_in v' a).variable ≡ v → Spannable board (Some (owning_by v' a)) range
      dimension_spannable v' e =
          let q = access_parts least d.nest.arrays s.i s.j a k in
          let f = subscript_small v' in
          let fit = dealt_in v' a.array q.there in
          let on = ends_inside (size_in v' (get_or d.nest.arrays a.array nowhere)) (subscript_in v' a) e (subscript_inside v') in
          let array : (a.array < length d.deals.rows) × (a.array < length d.deals.columns) = (omega (arith, q.there, seated.fits.0), omega (arith, q.there, seated.fits.1)) in
          let asked = bounds (deal_in v' d.deals a.array) (boards_in v' d.nest.grid) _ (coordinate v' d.nest.grid.rows p) _ _ (board_in v') fit.0 fit.1 on.0 on.1 on.2 in (
            (f.0, small_range.0, f.1),
            (f.0, small_range.1, f.1),
            (some_row, array.0, array.1, asked.0, asked.1),
            (some_row, array.0, array.1, asked.0, asked.2),
          )

      -- as the ship of a read goes by it
      pub ship_spannable : Spannable board (ship_owning v a) range
      ship_spannable =
          spannable_cond board (moves_with v a.row) _ _ range (λ t. dimension_spannable Rows ((moves_by v a.row t).0))
          (spannable_cond board (moves_with v a.column) _ _ range (λ t. dimension_spannable Columns ((moves_by v a.column t).0)) small_range.1)

  -- the ship of a read
  pub ship_orderable : (r : ReadTerm) → read_kept d.nest.arrays s.i s.j r ≡ true → Orderable board s (Ship r)
  ship_orderable r k =
      let a = (and_parts (leb r.coefficient 7) (access_kept 0 d.nest.arrays s.i s.j r.source) k).1 in
      (ship_spannable I 0 r.source a, ship_spannable J 0 r.source a)

  -- any other task
  pub put_orderable : Orderable board s Base
  put_orderable = (
    dimension_spannable I 1 s.put parts.put Rows (is_i_lem s.put.row.variable parts.by_i),
    dimension_spannable J 1 s.put parts.put Columns (is_j s.put.column.variable parts.by_j),
  )

  -- the whole loop ranges
  pub plain_spannable : Spannable board None s.i × Spannable board None s.j
  plain_spannable = ((small_range I).1, (small_range J).1)

  -- all tasks
  ships_orderable : (reads : List ReadTerm) → each (read_kept d.nest.arrays s.i s.j) reads ≡ true → AllOrderable board s (map Ship reads)
  ships_orderable [] k = tt
  ships_orderable (r ∷ reads) k =
      let q = and_parts (read_kept d.nest.arrays s.i s.j r) (each (read_kept d.nest.arrays s.i s.j) reads) k in
      (ship_orderable r q.0, ships_orderable reads q.1)

  adds_orderable : (reads : List ReadTerm) → AllOrderable board s (map Add reads)
  adds_orderable [] = tt
  adds_orderable (r ∷ reads) = (put_orderable, adds_orderable reads)

  pub tasks_orderable : AllOrderable board s (tasks_of s)
  tasks_orderable =
      All-append (Orderable board s) (map Ship s.reads) _ (ships_orderable s.reads parts.reads)
      (put_orderable, All-append (Orderable board s) (map Add s.reads) _ (adds_orderable s.reads) (put_orderable, tt))
