-- The steps of an order, cell by cell. Assumes nothing.
use Rattle.std.proofs.Common.{◌≡◌, ℕ, zero, suc, ◌+◌, ◌-◌, ◌<◌, ◌≤◌, true, false, ltb, List, [], ◌∷◌, ◌++◌, map, length, drop, Some, None, Option, sym, refl, ap, ◌∙◌, ⊎_elim, add-zero, arith}
use Rattle.std.specs.List.{range_with_len, flat_map}
use Rattle.std.specs.Option.{MatchOption}
use Rattle.std.proofs.lemmas.List.{drop_more, drop_all}
use Rattle.std.proofs.lemmas.List.Folds.{flat_map-map}
use Rattle.std.proofs.lemmas.Bool.{and_cases, cases_lt, lt-ltb, ltb-false, ltb-true}
use Rattle.nest.specs.Terms.{Said}
use Rattle.sequential.specs.declared.iteration.Iteration.{Iteration}
use Rattle.compiler.specs.declared.order.Order.{Order}
use Rattle.compiler.specs.Spans.{Seat, numbers_of, value_in, span_values}
use Rattle.compiler.specs.Cells.{cell_of}
use Rattle.compiler.specs.Deeds.{Deed, deed_in, tasks_in, order_deeds}
use Rattle.compiler.proofs.FilteredLists.{joined_joined, joined_like, joined_nothing}
use Rattle.standing.specs.Left.{cell_deeds, row_deeds, deeds_of, no_order, order_at, statement_of}
use Rattle.standing.specs.Moves.{FirstWithCells, Passes, has_cells}

-- one more number of a count, and none
pub counting_more : (k end : ℕ) → k < end → range_with_len k (end - k) ≡ k ∷ range_with_len (k + 1) (end - (k + 1))
counting_more k end h =
    let e : end - k ≡ suc (end - (k + 1)) = omega arith in
    rw e

pub counting_none : (k end : ℕ) → end ≤ k → range_with_len k (end - k) ≡ []
counting_none k end h = let e : end - k ≡ 0 = omega arith in rw e

-- the steps of an order are those of its rows
pub order_rows : (b : Seat) (s : Said) (o : Order) → order_deeds b s o ≡ flat_map (row_deeds b s o) (numbers_of o.i)
order_rows b s o =
    joined_joined deeds (λ i. map (cell_of i) (span_values b s.j o.j)) (span_values b s.i o.i)
    ∙ flat_map-map (λ i. flat_map deeds (map (cell_of i) (span_values b s.j o.j))) (value_in b s.i o.i.owning) (numbers_of o.i)
    ∙ joined_like _ (row_deeds b s o) (numbers_of o.i) row
  where
    deeds : Option Iteration → List Deed
    deeds cell = map (deed_in b s cell) (tasks_in s o.work)

    row : (i : ℕ) → flat_map deeds (map (cell_of (value_in b s.i o.i.owning i)) (span_values b s.j o.j)) ≡ row_deeds b s o i
    row i =
        flat_map-map deeds (cell_of (value_in b s.i o.i.owning i)) (span_values b s.j o.j)
        ∙ flat_map-map (λ j. deeds (cell_of (value_in b s.i o.i.owning i) j)) (value_in b s.j o.j.owning) (numbers_of o.j)

-- an order without cells has nothing to do
pub no_cells : (b : Seat) (s : Said) (o : Order) → has_cells o ≡ false → order_deeds b s o ≡ []
no_cells b s o h =
    order_rows b s o
    ∙ ⊎_elim
    (λ e. ap (flat_map (row_deeds b s o)) (counting_none o.i.first o.i.end (ltb-false o.i.first o.i.end e)))
    (λ e. joined_nothing (row_deeds b s o) (numbers_of o.i) (λ i. ap (flat_map (cell_deeds b s o i)) (counting_none o.j.first o.j.end (ltb-false o.j.first o.j.end e))))
    (and_cases (ltb o.i.first o.i.end) (ltb o.j.first o.j.end) h)

-- so it may be passed over
pub passes_more : (orders : List Order) (k m : ℕ) → m < length orders → has_cells (order_at orders m) ≡ false → Passes orders k m → Passes orders k (m + 1)
passes_more orders k m l h p n b =
    p n b ∙ ap (flat_map (deeds_of b n)) (drop_more orders m no_order l)
    ∙ ap (λ d. d ++ flat_map (deeds_of b n) (drop (m + 1) orders)) (no_cells b (statement_of n (order_at orders m)) (order_at orders m) h)

-- past the last order there is nothing to do
pub passes_all : (orders : List Order) (k m : ℕ) → length orders ≤ m → Passes orders k m → Passes orders k (length orders)
passes_all orders k m l p n b = p n b ∙ ap (flat_map (deeds_of b n)) (drop_all m orders l ∙ sym (drop_all (length orders) orders (omega arith)))

-- orders without cells may be passed over one after the other
passes_between : (orders : List Order) (k c : ℕ) → k + c ≤ length orders → ((i : ℕ) → k ≤ i → i < k + c → has_cells (order_at orders i) ≡ false) → Passes orders k (k + c)
passes_between orders k zero h idle = λ n b. rw add-zero refl
passes_between orders k (suc c) h idle =
    let e : k + suc c ≡ k + c + 1 = omega arith in
    rw e (passes_more orders k (k + c) (omega arith) (idle (k + c) (omega arith) (omega arith)) (passes_between orders k c (omega arith) (λ i from below. idle i from (omega arith))))

-- the first with cells, or none
pub first_passes : (orders : List Order) (k : ℕ) (r : Option ℕ)
    → MatchOption r ((i : ℕ) → k ≤ i → i < length orders → has_cells (order_at orders i) ≡ false)
    (λ m. (k ≤ m) × (m < length orders) × (has_cells (order_at orders m) ≡ true) × ((i : ℕ) → k ≤ i → i < m → has_cells (order_at orders i) ≡ false))
    → FirstWithCells orders k r
first_passes orders k None idle =
    ⊎_elim
    (λ l. let e : k + (length orders - k) ≡ length orders = omega arith in rw e at (passes_between orders k (length orders - k) (omega arith) (λ i from below. idle i from (omega arith))))
    (λ l. passes_all orders k k l (λ n b. refl))
    (cases_lt k (length orders))
first_passes orders k (Some m) found =
    let e : k + (m - k) ≡ m = omega arith in (
      rw e at (passes_between orders k (m - k) (omega arith) (λ i from below. found.3 i from (omega arith))),
      lt-ltb m (length orders) found.1,
      found.2,
    )

-- a row with a number begins with its first cell, an order with cells with its first row
pub row_first : (b : Seat) (s : Said) (o : Order) (i : ℕ) → ltb o.j.first o.j.end ≡ true
    → row_deeds b s o i ≡ cell_deeds b s o i o.j.first ++ flat_map (cell_deeds b s o i) (range_with_len (o.j.first + 1) (o.j.end - (o.j.first + 1)))
row_first b s o i h = ap (flat_map (cell_deeds b s o i)) (counting_more o.j.first o.j.end (ltb-true o.j.first o.j.end h))
