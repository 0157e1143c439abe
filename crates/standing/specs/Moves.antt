-- How a board moves on: the first step of a cell, the step after a step, the orders that have cells. Assumes nothing.
use Rattle.std.specs.Prelude.{◌≡◌, ℕ, ◌+◌, ◌-◌, Bool, true, false, cond, ◌&&◌, List, ◌++◌, length, drop, Some, None, Option, ◌==◌, nat_lt}
use Rattle.std.specs.List.{range_with_len, flat_map}
use Rattle.nest.specs.Terms.{Sheet}
use Rattle.compiler.specs.declared.order.Order.{Order}
use Rattle.compiler.specs.declared.order.Work.{Work}
use Rattle.compiler.specs.declared.order.Work.TheVariants.{One, Walk}
use Rattle.compiler.specs.Spans.{Seat}
use Rattle.compiler.specs.Deeds.{Deed}
use Rattle.standing.specs.declared.place.Phase.{Phase}
use Rattle.standing.specs.declared.place.Phase.TheVariants.{Single, Ships, Base, Adds, Store}
use Rattle.standing.specs.declared.place.Place.{Place}
use Rattle.standing.specs.Left.{cell_deeds, row_deeds, deeds_of, order_at, statement_of, sweeps_left, todo_of, in_program}

-- a standing is in the program: it is the end, or before a step that is there
abbrev pub StandsIn : Sheet → List Order → Option Place → Type 0
StandsIn n orders (Some at) = in_program n orders at ≡ true
StandsIn n orders None = Unit {0}

-- what is left from a standing, for every board
abbrev pub Leaves : Sheet → List Order → Option Place → (Seat → List Deed) → Type 0
Leaves n orders r left = (b : Seat) → todo_of b n orders r ≡ left b

-- both spans of an order have a number
abbrev pub has_cells : Order → Bool
has_cells o = nat_lt o.i.first o.i.end && nat_lt o.j.first o.j.end

-- from order k on there is as much to do as from order m on
abbrev pub Passes : List Order → ℕ → ℕ → Type 0
Passes orders k m = (n : Sheet) (b : Seat) → flat_map (deeds_of b n) (drop k orders) ≡ flat_map (deeds_of b n) (drop m orders)

-- the first order with cells from order k on: those before it have nothing to do
abbrev pub FirstWithCells : List Order → ℕ → Option ℕ → Type 0
FirstWithCells orders k None = Passes orders k (length orders)
FirstWithCells orders k (Some m) = Passes orders k m × (nat_lt m (length orders) ≡ true) × (has_cells (order_at orders m) ≡ true)

-- the first step of a cell, for a statement with so many reads
abbrev pub first_phase : Work → ℕ → Phase
first_phase (One t) reads = Single
first_phase Walk reads = cond (reads == 0) Base (Ships 0)

-- the step after a step of a cell, or none
abbrev pub phase_after : Phase → ℕ → Option Phase
phase_after Single reads = None
phase_after (Ships n) reads = Some (cond (nat_lt (n + 1) reads) (Ships (n + 1)) Base)
phase_after Base reads = Some (cond (reads == 0) Store (Adds 0))
phase_after (Adds n) reads = Some (cond (nat_lt (n + 1) reads) (Adds (n + 1)) Store)
phase_after Store reads = None

-- a phase goes with a work, for a statement with so many reads
abbrev pub goes_with : Work → ℕ → Phase → Bool
goes_with (One t) reads Single = true
goes_with (One t) reads _ = false
goes_with Walk reads Single = false
goes_with Walk reads (Ships n) = nat_lt n reads
goes_with Walk reads Base = true
goes_with Walk reads (Adds n) = nat_lt n reads
goes_with Walk reads Store = true

-- how many reads the statement of an order has
abbrev pub reads_of : Sheet → Order → ℕ
reads_of n o = length (statement_of n o).reads

-- the first place of an order
abbrev pub place_in : Sheet → List Order → ℕ → ℕ → Place
place_in n orders s k =
    let o = order_at orders k in
    record { sweep = s; order = k; i = o.i.first; j = o.j.first; phase = first_phase o.work (reads_of n o) }

-- the first step of the next cell of an order: of the row, else of the next row, else none
abbrev pub cell_after : Order → ℕ → Place → Option Place
cell_after o reads at =
    cond (nat_lt (at.j + 1) o.j.end)
    (Some (record at { j = at.j + 1; phase = first_phase o.work reads }))
    (cond (nat_lt (at.i + 1) o.i.end)
    (Some (record at { i = at.i + 1; j = o.j.first; phase = first_phase o.work reads }))
    None)

-- the steps after a cell of an order: the rest of the row, of the order, of all sweeps
abbrev pub after_cell : Seat → Sheet → List Order → Place → List Deed
after_cell b n orders at =
    let o = order_at orders at.order in
    let s = statement_of n o in
    (flat_map (cell_deeds b s o at.i) (range_with_len (at.j + 1) (o.j.end - (at.j + 1))) ++ flat_map (row_deeds b s o) (range_with_len (at.i + 1) (o.i.end - (at.i + 1))))
    ++ sweeps_left b n orders at.sweep (at.order + 1)
