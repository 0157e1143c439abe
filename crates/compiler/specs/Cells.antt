-- The cells of an order, and which of them a board has a part in. Assumes nothing.
use Rattle.std.specs.Prelude.{ℕ, Bool, not, ◌&&◌, List, map, Some, None, filter, Option, ◌==◌, nat_eq}
use Rattle.std.specs.List.{flat_map}
use Rattle.std.specs.Option.{option_to_list}
use Rattle.nest.specs.Terms.{Said}
use Rattle.nest.specs.declared.terms.Access.{Access}
use Rattle.sections.specs.Order.{Element}
use Rattle.sections.specs.Sections.{board_of}
use Rattle.sequential.specs.Iterations.{position_in}
use Rattle.sequential.specs.declared.iteration.Iteration.{Iteration}
use Rattle.compiler.specs.declared.order.Order.{Order}
use Rattle.compiler.specs.declared.order.Task.{Task}
use Rattle.compiler.specs.declared.order.Task.TheVariants.{Ship, Base, Add, Store}
use Rattle.compiler.specs.Spans.{Seat, span_values}
use Rattle.compiler.specs.Orders.{task_order}

-- the iteration of a cell, where both its numbers have a loop value; otherwise it is idle
abbrev pub cell_of : Option ℕ → Option ℕ → Option Iteration
cell_of None j = None
cell_of (Some i) None = None
cell_of (Some i) (Some j) = Some (record { i = i; j = j })

-- the cells of an order, i slowest
abbrev pub cells_of : Seat → Said → Order → List (Option Iteration)
cells_of b s o = flat_map (λ i. map (cell_of i) (span_values b s.j o.j)) (span_values b s.i o.i)

-- idle ones dropped
abbrev pub present : {X : Type 0} → List (Option X) → List X
present xs = flat_map option_to_list xs

-- the element that an access names in an iteration, and the board that owns it
abbrev pub element_at : Access → Iteration → Element
element_at a e = (a.array, position_in a.row e, position_in a.column e)

abbrev pub board_at : Seat → Access → Iteration → ℕ
board_at b a e = board_of b.grid_rows b.deals a.array (position_in a.row e) (position_in a.column e)

-- the board itself owns it
abbrev pub owns_at : Seat → Access → Iteration → Bool
owns_at b a e = board_at b a e == b.board

-- whether the board has a part in a task: it ships if it owns the element and not the target; all else is for the
-- target's owner
abbrev pub takes_part : Seat → Said → Task → Iteration → Bool
takes_part b s (Ship r) e = owns_at b r.source e && not (owns_at b s.put e)
takes_part b s Base e = owns_at b s.put e
takes_part b s (Add r) e = owns_at b s.put e
takes_part b s Store e = owns_at b s.put e

-- the iterations in which the board has a part, as it comes to them in the cells of its order
abbrev pub parts_of : Seat → Said → Task → List Iteration
parts_of b s t = filter (takes_part b s t) (present (cells_of b s (task_order b 0 s t)))

-- of the iterations in which it ships the element of a read: those for board q
abbrev pub shipped_to : Seat → Said → Task → ℕ → List Iteration
shipped_to b s t q = filter (λ e. nat_eq (board_at b s.put e) q) (parts_of b s t)

-- of the iterations in which it adds the term of a read from access a: those whose element board p owns
abbrev pub taken_from : Seat → Said → Task → Access → ℕ → List Iteration
taken_from b s t a p = filter (λ e. nat_eq (board_at b a e) p) (parts_of b s t)
