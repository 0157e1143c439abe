use Rattle.std.proofs.Common.{◌≡◌, ◌++◌, map, take, vec_items}
use Rattle.nest.specs.Views.{said}
use Rattle.compiler.specs.Orders.{task_order}
use Rattle.compiler.specs.Seats.{seat_of}
use Rattle.compiler.proofs.view.BoardView.push_task_orders.Given as goal

abbrev pub invariant-loop-task : goal.invariant-loop-task
invariant-loop-task l = vec_items l.orders ≡ vec_items l.initial.orders ++ map (task_order (seat_of l.self) l.number (said l.statement)) (take l.task-index l.tasks)
