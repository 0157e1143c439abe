-- The first place of an order, and what is left from there. Assumes nothing.
use Rattle.std.proofs.Common.{◌≡◌, ℕ, zero, suc, ◌+◌, ◌-◌, ◌<◌, true, ◌&&◌, ltb, leb, List, [], ◌++◌, length, drop, Some, None, sym, refl, ap, ◌∙◌, arith}
use Rattle.std.specs.List.{range_with_len, flat_map}
use Rattle.std.proofs.lemmas.List.{append_assoc, append-nil, drop_more, drop_all}
use Rattle.std.proofs.lemmas.Bool.{and_parts, and_from, ltb-true, lt-ltb, le-leb}
use Rattle.nest.specs.Terms.{Said, Sheet}
use Rattle.compiler.specs.declared.order.Order.{Order}
use Rattle.compiler.specs.Spans.{Seat}
use Rattle.compiler.specs.Deeds.{order_deeds}
use Rattle.schedule.specs.Events.{again}
use Rattle.standing.specs.declared.place.Place.{Place}
use Rattle.standing.specs.Left.{cell_deeds, row_deeds, deeds_of, no_order, order_at, statement_of, order_left, sweeps_left, todo_from, in_program}
use Rattle.standing.specs.Moves.{Passes, FirstWithCells, Leaves, StandsIn, first_phase, has_cells, place_in, reads_of}
use Rattle.standing.proofs.CellLists.{counting_more, order_rows, row_first}
use Rattle.standing.proofs.PhaseSteps.{first_number, first_goes, task_there}

-- a place in an order, before the first step of a cell
abbrev pub cell_place : ℕ → ℕ → Said → Order → ℕ → ℕ → Place
cell_place s k st o i j = record { sweep = s; order = k; i = i; j = j; phase = first_phase o.work (length st.reads) }

-- before the first step of a cell, all of the cell is left
pub cell_left : (b : Seat) (st : Said) (o : Order) (s k i j : ℕ)
    → order_left b st o (cell_place s k st o i j)
    ≡ cell_deeds b st o i j ++ (flat_map (cell_deeds b st o i) (range_with_len (j + 1) (o.j.end - (j + 1))) ++ flat_map (row_deeds b st o) (range_with_len (i + 1) (o.i.end - (i + 1))))
cell_left b st o s k i j =
    ap (λ n. drop n (cell_deeds b st o i j) ++ (flat_map (cell_deeds b st o i) (range_with_len (j + 1) (o.j.end - (j + 1))) ++ flat_map (row_deeds b st o) (range_with_len (i + 1) (o.i.end - (i + 1)))))
    (first_number o.work (length st.reads))

-- before the first cell of a row, all of the row is left
pub row_left : (b : Seat) (st : Said) (o : Order) (s k i : ℕ) → ltb o.j.first o.j.end ≡ true
    → order_left b st o (cell_place s k st o i o.j.first) ≡ row_deeds b st o i ++ flat_map (row_deeds b st o) (range_with_len (i + 1) (o.i.end - (i + 1)))
row_left b st o s k i h =
    cell_left b st o s k i o.j.first
    ∙ sym (append_assoc (cell_deeds b st o i o.j.first) (flat_map (cell_deeds b st o i) (range_with_len (o.j.first + 1) (o.j.end - (o.j.first + 1)))) (flat_map (row_deeds b st o) (range_with_len (i + 1) (o.i.end - (i + 1)))))
    ∙ ap (λ r. r ++ flat_map (row_deeds b st o) (range_with_len (i + 1) (o.i.end - (i + 1)))) (sym (row_first b st o i h))

-- before the first row of an order, all of the order is left
pub order_left_lem : (b : Seat) (st : Said) (o : Order) (s k : ℕ) → has_cells o ≡ true
    → order_left b st o (cell_place s k st o o.i.first o.j.first) ≡ order_deeds b st o
order_left_lem b st o s k h =
    let both = and_parts (ltb o.i.first o.i.end) (ltb o.j.first o.j.end) h in
    row_left b st o s k o.i.first both.1
    ∙ ap (flat_map (row_deeds b st o)) (sym (counting_more o.i.first o.i.end (ltb-true o.i.first o.i.end both.0)))
    ∙ sym (order_rows b st o)

-- from the first place of an order with cells, all is left from that order on
pub place_left : (b : Seat) (n : Sheet) (orders : List Order) (s k : ℕ) → ltb k (length orders) ≡ true → has_cells (order_at orders k) ≡ true
    → todo_from b n orders (place_in n orders s k) ≡ sweeps_left b n orders s k
place_left b n orders s k there cells =
    let o = order_at orders k in
    let later = again (n.sweeps - (s + 1)) (flat_map (deeds_of b n) orders) in
    ap (λ l. l ++ sweeps_left b n orders s (k + 1)) (order_left_lem b (statement_of n o) o s k cells)
    ∙ sym (append_assoc (deeds_of b n o) (flat_map (deeds_of b n) (drop (k + 1) orders)) later)
    ∙ ap (λ os. flat_map (deeds_of b n) os ++ later) (sym (drop_more orders k no_order (ltb-true k (length orders) there)))

-- the first number of a span that has one is the span's
first_in : (a e : ℕ) → ltb a e ≡ true → (leb a a && ltb a e) ≡ true
first_in a e h = and_from (leb a a) (ltb a e) (le-leb a a (omega arith)) h

-- and that place is one of the program's
pub place_in_lem : (n : Sheet) (orders : List Order) (s k : ℕ) → ltb s n.sweeps ≡ true → ltb k (length orders) ≡ true → has_cells (order_at orders k) ≡ true
    → in_program n orders (place_in n orders s k) ≡ true
place_in_lem n orders s k early there cells =
    let o = order_at orders k in
    let both = and_parts (ltb o.i.first o.i.end) (ltb o.j.first o.j.end) cells in
    let task = task_there (statement_of n o) o.work (place_in n orders s k).phase ∙ first_goes o.work (reads_of n o) in
    and_from _ _ (and_from _ _ early there) (and_from _ _ (and_from _ _ (first_in o.i.first o.i.end both.0) (first_in o.j.first o.j.end both.1)) task)

-- a list so many times over begins with the list
pub again_front : {X : Type 0} (m : ℕ) (xs : List X) → again m xs ++ xs ≡ xs ++ again m xs
again_front zero xs = sym (append-nil xs)
again_front (suc m) xs = ap (λ r. r ++ xs) (again_front m xs) ∙ append_assoc xs (again m xs) xs

again_nothing : {X : Type 0} (m : ℕ) → again {X = X} m [] ≡ []
again_nothing zero = refl
again_nothing (suc m) = append-nil (again m []) ∙ again_nothing m

-- what is left from the first order of a sweep on
pub sweep_left : (b : Seat) (n : Sheet) (orders : List Order) (s : ℕ) → s < n.sweeps → sweeps_left b n orders s 0 ≡ again (n.sweeps - s) (flat_map (deeds_of b n) orders)
sweep_left b n orders s h =
    let more : n.sweeps - s ≡ suc (n.sweeps - (s + 1)) = omega arith in
    rw more (sym (again_front (n.sweeps - (s + 1)) (flat_map (deeds_of b n) orders)))

-- nothing is left where no order has cells
passed_all : (n : Sheet) (orders : List Order) (k : ℕ) → Passes orders k (length orders) → (b : Seat) → flat_map (deeds_of b n) (drop k orders) ≡ []
passed_all n orders k p b = p n b ∙ ap (flat_map (deeds_of b n)) (drop_all (length orders) orders (omega arith))

pub sweeps_idle : (n : Sheet) (orders : List Order) (s : ℕ) → FirstWithCells orders 0 None → Leaves n orders None (λ b. again (n.sweeps - s) (flat_map (deeds_of b n) orders))
sweeps_idle n orders s p b = sym (ap (again (n.sweeps - s)) (passed_all n orders 0 p b) ∙ again_nothing (n.sweeps - s))

-- the first place of the first order with cells has all that is left from an order on
pub enters : (n : Sheet) (orders : List Order) (s k m : ℕ) (at : Place) → at ≡ place_in n orders s m → FirstWithCells orders k (Some m) → Leaves n orders (Some at) (λ b. sweeps_left b n orders s k)
enters n orders s k m at is f b =
    ap (todo_from b n orders) is ∙ place_left b n orders s m f.1 f.2
    ∙ ap (λ d. d ++ again (n.sweeps - (s + 1)) (flat_map (deeds_of b n) orders)) (sym (f.0 n b))

-- at the start of a sweep that is all of the sweep and those after it
pub enters_sweep : (n : Sheet) (orders : List Order) (s m : ℕ) (at : Place) → at ≡ place_in n orders s m → s < n.sweeps → FirstWithCells orders 0 (Some m)
    → Leaves n orders (Some at) (λ b. again (n.sweeps - s) (flat_map (deeds_of b n) orders))
enters_sweep n orders s m at is h f b = enters n orders s 0 m at is f b ∙ sweep_left b n orders s h

pub enters_in : (n : Sheet) (orders : List Order) (s k m : ℕ) (at : Place) → at ≡ place_in n orders s m → s < n.sweeps → FirstWithCells orders k (Some m) → StandsIn n orders (Some at)
enters_in n orders s k m at is h f = ap (in_program n orders) is ∙ place_in_lem n orders s m (lt-ltb s n.sweeps h) f.1 f.2
