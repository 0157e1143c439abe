-- What a board still has to do from where it stands. Assumes nothing.
use Rattle.std.specs.Prelude.{ℕ, ◌+◌, ◌-◌, Bool, true, ◌&&◌, List, [], ◌++◌, map, length, drop, is_some, Some, None, Option, nat_le, nat_lt, slice_get, slice_index_or}
use Rattle.std.specs.List.{range_with_len, flat_map}
use Rattle.std.specs.Option.{option_map}
use Rattle.nest.specs.Terms.{Said, Sheet}
use Rattle.owner_map.specs.Meaning.{position as position_of}
use Rattle.sequential.specs.declared.iteration.Iteration.{Iteration}
use Rattle.compiler.specs.declared.order.Order.{Order}
use Rattle.compiler.specs.declared.order.Task.{Task}
use Rattle.compiler.specs.declared.order.Task.TheVariants.{Ship as ShipTask, Base as BaseTask, Add as AddTask, Store as StoreTask}
use Rattle.compiler.specs.declared.order.Work.{Work}
use Rattle.compiler.specs.declared.order.Work.TheVariants.{One, Walk}
use Rattle.compiler.specs.declared.span.Span.{Span}
use Rattle.compiler.specs.declared.span.Owning.{Owning}
use Rattle.compiler.specs.Spans.{Seat, deal_for, self_for, numbers_of, value_in}
use Rattle.compiler.specs.Cells.{cell_of}
use Rattle.compiler.specs.Deeds.{Deed, rests, deed_in, tasks_in, order_deeds}
use Rattle.compiler.specs.Keeping.{statement_at}
use Rattle.schedule.specs.Events.{again}
use Rattle.standing.specs.declared.place.Phase.{Phase}
use Rattle.standing.specs.declared.place.Phase.TheVariants.{Single, Ships, Base, Adds, Store}
use Rattle.standing.specs.declared.place.Place.{Place}

-- the task that a phase stands before in a cell of a statement; none where the phase does not go with the work
abbrev pub task_in : Said → Work → Phase → Option Task
task_in s (One t) Single = Some t
task_in s (One t) _ = None
task_in s Walk Single = None
task_in s Walk (Ships n) = option_map ShipTask (slice_get s.reads n)
task_in s Walk Base = Some BaseTask
task_in s Walk (Adds n) = option_map AddTask (slice_get s.reads n)
task_in s Walk Store = Some StoreTask

-- its number among the steps of the cell
abbrev pub phase_number : ℕ → Phase → ℕ
phase_number reads Single = 0
phase_number reads (Ships n) = n
phase_number reads Base = reads
phase_number reads (Adds n) = reads + 1 + n
phase_number reads Store = reads + 1 + reads

-- the iteration at two numbers of an order's spans; without one the cell is idle
abbrev pub cell_in : Seat → Said → Order → ℕ → ℕ → Option Iteration
cell_in b s o i j = cell_of (value_in b s.i o.i.owning i) (value_in b s.j o.j.owning j)

-- the steps of a cell, and of all cells with one i
abbrev pub cell_deeds : Seat → Said → Order → ℕ → ℕ → List Deed
cell_deeds b s o i j = map (deed_in b s (cell_in b s o i j)) (tasks_in s o.work)

abbrev pub row_deeds : Seat → Said → Order → ℕ → List Deed
row_deeds b s o i = flat_map (cell_deeds b s o i) (numbers_of o.j)

-- the steps of an order of a nest
abbrev pub deeds_of : Seat → Sheet → Order → List Deed
deeds_of b n o = order_deeds b (statement_at n.statements o.statement) o

-- an order that is not there
abbrev pub no_order : Order
no_order = record {
  statement = 0;
  work = One BaseTask;
  i = record { owning = None; first = 0; end = 0 };
  j = record { owning = None; first = 0; end = 0 };
}

abbrev pub order_at : List Order → ℕ → Order
order_at orders k = slice_index_or orders k no_order

abbrev pub statement_of : Sheet → Order → Said
statement_of n o = statement_at n.statements o.statement

-- the steps left in an order, from a place in it: the rest of the cell, of the row, of the order
abbrev pub order_left : Seat → Said → Order → Place → List Deed
order_left b s o at =
    drop (phase_number (length s.reads) at.phase) (cell_deeds b s o at.i at.j)
    ++ (flat_map (cell_deeds b s o at.i) (range_with_len (at.j + 1) (o.j.end - (at.j + 1)))
    ++ flat_map (row_deeds b s o) (range_with_len (at.i + 1) (o.i.end - (at.i + 1))))

-- the steps from order k of a sweep on, to the end of all sweeps
abbrev pub sweeps_left : Seat → Sheet → List Order → ℕ → ℕ → List Deed
sweeps_left b n orders sweep k = flat_map (deeds_of b n) (drop k orders) ++ again (n.sweeps - (sweep + 1)) (flat_map (deeds_of b n) orders)

-- the steps left from where a board stands
abbrev pub todo_from : Seat → Sheet → List Order → Place → List Deed
todo_from b n orders at =
    let o = order_at orders at.order in
    order_left b (statement_of n o) o at ++ sweeps_left b n orders at.sweep (at.order + 1)

abbrev pub todo_of : Seat → Sheet → List Order → Option Place → List Deed
todo_of b n orders (Some at) = todo_from b n orders at
todo_of b n orders None = []

-- a number is one of a span's
abbrev pub in_span : Span → ℕ → Bool
in_span s n = nat_le s.first n && nat_lt n s.end

-- the maps have the rank at a number of a span that is owned
abbrev pub has_rank : Seat → Option Owning → ℕ → Bool
has_rank b None n = true
has_rank b (Some o) n = is_some (position_of (deal_for b o) (self_for b o) n)

-- a place is one of the program's: its sweep and order are there, its numbers are of the order's spans, its phase goes with
-- the order's work
abbrev pub in_order : Said → Order → Place → Bool
in_order s o at = in_span o.i at.i && in_span o.j at.j && is_some (task_in s o.work at.phase)

abbrev pub in_program : Sheet → List Order → Place → Bool
in_program n orders at =
    let o = order_at orders at.order in
    nat_lt at.sweep n.sweeps && nat_lt at.order (length orders) && in_order (statement_of n o) o at

-- and the maps have its ranks
abbrev pub in_maps : Seat → List Order → Place → Bool
in_maps b orders at = let o = order_at orders at.order in has_rank b o.i.owning at.i && has_rank b o.j.owning at.j

-- where a board stands is known to program and maps; the end always is
abbrev pub known : Seat → Sheet → List Order → Option Place → Bool
known b n orders (Some at) = in_program n orders at && in_maps b orders at
known b n orders None = true

-- the step that comes next at a place, if its phase goes with the order's work
abbrev pub deed_for : Seat → Said → Option Iteration → Option Task → Deed
deed_for b s cell None = rests
deed_for b s cell (Some t) = deed_in b s cell t

abbrev pub deed_at : Seat → Sheet → List Order → Place → Deed
deed_at b n orders at =
    let o = order_at orders at.order in
    let s = statement_of n o in
    deed_for b s (cell_in b s o at.i at.j) (task_in s o.work at.phase)
