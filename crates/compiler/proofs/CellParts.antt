-- The cells of a board's order for a task, as iterations. Assumes nothing.
use Rattle.std.proofs.Common.{◌≡◌, ℕ, ◌-◌, ◌*◌, Bool, true, false, cond, not, ◌&&◌, List, [], ◌∷◌, ◌++◌, map, length, Some, None, filter, Option, sym, refl, ap, ◌∙◌, ap₂, suc-mul, zero-mul, arith}
use Rattle.std.specs.List.{flat_map}
use Rattle.std.specs.Option.{option_to_list}
use Rattle.std.proofs.lemmas.List.FromFn.{length-map-range_with_len}
use Rattle.std.proofs.lemmas.List.{length-append, length-map}
use Rattle.std.proofs.lemmas.Bool.{both_ways, cond-false}
use Rattle.nest.specs.Terms.{Said}
use Rattle.nest.specs.declared.terms.Array.{Array}
use Rattle.nest.specs.declared.terms.Grid.{Grid}
use Rattle.sections.specs.Sections.{Deals, Fits}
use Rattle.sequential.specs.Iterations.{values_of, row_of, iterations}
use Rattle.sequential.proofs.Kept.{Parts}
use Rattle.sequential.specs.declared.iteration.Iteration.{Iteration}
use Rattle.compiler.specs.declared.order.Order.{Order}
use Rattle.compiler.specs.declared.order.Task.{Task}
use Rattle.compiler.specs.declared.order.Task.TheVariants.{Ship, Base, Add, Store}
use Rattle.compiler.specs.Spans.{Seat, seat, span_of, span_values, owns_value}
use Rattle.compiler.specs.Orders.{i_owning, j_owning, task_order}
use Rattle.compiler.specs.Cells.{cell_of, cells_of, present, element_at, board_at, owns_at, takes_part, parts_of}
use Rattle.compiler.specs.Deeds.{Deed, rests, ships, works, working, deed_of, deed_in}
use Rattle.compiler.specs.Laws.{AllSound}
use Rattle.compiler.proofs.SpanValues.{span_values_lem}
use Rattle.compiler.proofs.TaskSpans.{TaskKept, i_fits, j_fits, part_owns_i, part_owns_j}
use Rattle.compiler.proofs.FilteredLists.{joined_append, joined_joined, joined_map, joined_like, joined_nothing, joined_single, joined_kept_by, kept_by_joined}

-- an order has a cell for each pair of its numbers
pairs_length : {X Y Z : Type 0} (f : X → Y → Z) (ys : List Y) (xs : List X) → length (flat_map (λ x. map (f x) ys) xs) ≡ length xs * length ys
pairs_length f ys [] = sym (zero-mul (length ys))
pairs_length f ys (x ∷ xs) =
    omega (arith, length-append (map (f x) ys) (flat_map (λ z. map (f z) ys) xs), length-map ys (f x), pairs_length f ys xs, suc-mul (length xs) (length ys))

pub length_cells : (b : Seat) (s : Said) (o : Order) → length (cells_of b s o) ≡ (o.i.end - o.i.first) * (o.j.end - o.j.first)
length_cells b s o =
    pairs_length cell_of (span_values b s.j o.j) (span_values b s.i o.i)
    ∙ ap₂ (λ m n. m * n) (length-map-range_with_len _ o.i.first (o.i.end - o.i.first)) (length-map-range_with_len _ o.j.first (o.j.end - o.j.first))

-- idle numbers have idle cells
idle_row : (js : List (Option ℕ)) → present (map (cell_of None) js) ≡ []
idle_row [] = refl
idle_row (j ∷ js) = idle_row js

present_row : (i : ℕ) (js : List (Option ℕ)) → present (map (cell_of (Some i)) js) ≡ row_of (present js) i
present_row i [] = refl
present_row i (None ∷ js) = present_row i js
present_row i (Some j ∷ js) = ap {B = List Iteration} (λ r. record { i = i; j = j } ∷ r) (present_row i js)

-- the cells that are not idle are the pairs of numbers that are not
pub present_cells : (js is : List (Option ℕ)) → present (flat_map (λ i. map (cell_of i) js) is) ≡ flat_map (row_of (present js)) (present is)
present_cells js [] = refl
present_cells js (None ∷ is) =
    joined_append option_to_list (map (cell_of None) js) (flat_map (λ i. map (cell_of i) js) is) ∙ ap₂ (λ a c. a ++ c) (idle_row js) (present_cells js is)
present_cells js (Some i ∷ is) =
    joined_append option_to_list (map (cell_of (Some i)) js) (flat_map (λ k. map (cell_of k) js) is) ∙ ap₂ (λ a c. a ++ c) (present_row i js) (present_cells js is)

-- what idle cells do not give comes from the others
pub joined_present : {X A : Type 0} (f : Option X → List A) (xs : List (Option X)) → f None ≡ [] → flat_map f xs ≡ flat_map (λ x. f (Some x)) (present xs)
joined_present f [] none = refl
joined_present f (None ∷ xs) none = ap (λ r. r ++ flat_map f xs) none ∙ joined_present f xs none
joined_present f (Some x ∷ xs) none = ap (λ r. f (Some x) ++ r) (joined_present f xs none)

-- pairs of filtered values may stand for all pairs, where the others give nothing
pub filtered_pairs : {A : Type 0} (h : Iteration → List A) (p q : ℕ → Bool) (is js : List ℕ)
    → ((e : Iteration) → p e.i ≡ false → h e ≡ []) → ((e : Iteration) → q e.j ≡ false → h e ≡ [])
    → flat_map h (flat_map (row_of (filter q js)) (filter p is)) ≡ flat_map h (flat_map (row_of js) is)
filtered_pairs h p q is js by-p by-q =
    joined_joined h (row_of (filter q js)) (filter p is)
    ∙ joined_like (λ i. flat_map h (row_of (filter q js) i)) (λ i. flat_map h (row_of js i)) (filter p is) row
    ∙ joined_kept_by p (λ i. flat_map h (row_of js i)) is (λ i none. joined_map h (λ j. record { i = i; j = j }) js ∙ joined_nothing (λ j. h (record { i = i; j = j })) js (λ j. by-p (record { i = i; j = j }) none))
    ∙ sym (joined_joined h (row_of js) is)
  where
    row : (i : ℕ) → flat_map h (row_of (filter q js) i) ≡ flat_map h (row_of js i)
    row i =
        joined_map h (λ j. record { i = i; j = j }) (filter q js)
        ∙ joined_kept_by q (λ j. h (record { i = i; j = j })) js (λ j none. by-q (record { i = i; j = j }) none)
        ∙ sym (joined_map h (λ j. record { i = i; j = j }) js)

-- a test that a false one follows from is false
contra : (x y : Bool) → (x ≡ true → y ≡ true) → y ≡ false → x ≡ false
contra true y f e = absurd (both_ways y e (f refl))
contra false y f e = refl

-- an iteration in which the board has no part gives no work
idle_deed : (b : Seat) (s : Said) (t : Task) (e : Iteration) → takes_part b s t e ≡ false → working (deed_of b s t e ∷ []) ≡ []
idle_deed b s (Ship r) e none = ship (owns_at b r.source e) (owns_at b s.put e) none
  where
    ship : (source put : Bool) → (source && not put) ≡ false → working (cond source (cond put rests (ships (board_at b s.put e) (element_at r.source e))) rests ∷ []) ≡ []
    ship true true k = refl
    ship true false k = cc
    ship false put k = refl
idle_deed b s Base e none = rw none
idle_deed b s (Add r) e none = rw none
idle_deed b s Store e none = rw none

working_joined : (deeds : List Deed) → working deeds ≡ flat_map (λ d. working (d ∷ [])) deeds
working_joined [] = refl
working_joined (d ∷ deeds) = step (works d) (working_joined deeds)
  where
    step : (t : Bool) → working deeds ≡ flat_map (λ c. working (c ∷ [])) deeds → cond t (d ∷ working deeds) (working deeds) ≡ cond t (d ∷ []) [] ++ flat_map (λ c. working (c ∷ [])) deeds
    step true e = ap (λ r. d ∷ r) e
    step false e = e

-- the orders of a statement that keeps its ranges, under deals that fit
module _ (g : Grid) (arrays : List Array) (deals : Deals) (fit : Fits g arrays deals) (sound : AllSound deals) (s : Said) (kept : Parts arrays s) (p : ℕ) (t : Task) (task : TaskKept arrays s t) where
  -- what comes only of the parts of a board comes of its cells as of all iterations
  pub cells_for : {A : Type 0} (k : ℕ) (h : Iteration → List A) → ((e : Iteration) → takes_part (seat g.rows deals p) s t e ≡ false → h e ≡ [])
      → flat_map h (present (cells_of (seat g.rows deals p) s (task_order (seat g.rows deals p) k s t))) ≡ flat_map h (iterations s.i s.j)
  cells_for k h none =
      let b : Seat = seat g.rows deals p in
      ap (flat_map h) (present_cells (span_values b s.j (span_of b (j_owning s t) s.j)) (span_values b s.i (span_of b (i_owning s t) s.i)))
      ∙ ap₂ (λ js is. flat_map h (flat_map (row_of js) is)) (span_values_lem b s.j (j_owning s t) (j_fits g arrays deals fit sound s kept p t task)) (span_values_lem b s.i (i_owning s t) (i_fits g arrays deals fit sound s kept p t task))
      ∙ filtered_pairs h (owns_value b (i_owning s t)) (owns_value b (j_owning s t)) (values_of s.i) (values_of s.j)
      (λ e f. none e (contra (takes_part b s t e) (owns_value b (i_owning s t) e.i) (part_owns_i g arrays deals fit sound s kept p t e task) f))
      (λ e f. none e (contra (takes_part b s t e) (owns_value b (j_owning s t) e.j) (part_owns_j g arrays deals fit sound s kept p t e task) f))

  -- its parts are all iterations filtered by whose part it is
  pub parts_are_iterations : parts_of (seat g.rows deals p) s t ≡ filter (takes_part (seat g.rows deals p) s t) (iterations s.i s.j)
  parts_are_iterations =
      let b : Seat = seat g.rows deals p in
      kept_by_joined (takes_part b s t) (present (cells_of b s (task_order b 0 s t)))
      ∙ cells_for 0 (λ e. cond (takes_part b s t e) (e ∷ []) []) (λ e none. cond-false (takes_part b s t e) (e ∷ []) [] none)
      ∙ sym (kept_by_joined (takes_part b s t) (iterations s.i s.j))

  -- its work in its cells is its work in all iterations
  pub work_is_iterations : (k : ℕ)
      → working (flat_map (λ cell. map (deed_in (seat g.rows deals p) s cell) (t ∷ [])) (cells_of (seat g.rows deals p) s (task_order (seat g.rows deals p) k s t)))
      ≡ working (map (deed_of (seat g.rows deals p) s t) (iterations s.i s.j))
  work_is_iterations k =
      let b : Seat = seat g.rows deals p in
      let cells : List (Option Iteration) = cells_of b s (task_order b k s t) in
      let one : Deed → List Deed = λ d. working (d ∷ []) in
      working_joined (flat_map (λ cell. deed_in b s cell t ∷ []) cells)
      ∙ ap (flat_map one) (joined_single (λ cell. deed_in b s cell t) cells)
      ∙ joined_map one (λ cell. deed_in b s cell t) cells
      ∙ joined_present (λ cell. one (deed_in b s cell t)) cells refl
      ∙ cells_for k (λ e. one (deed_of b s t e)) (idle_deed b s t)
      ∙ sym (joined_map one (deed_of b s t) (iterations s.i s.j))
      ∙ sym (working_joined (map (deed_of b s t) (iterations s.i s.j)))
