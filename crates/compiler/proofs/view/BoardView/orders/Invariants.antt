use Rattle.std.proofs.Common.{◌≡◌, map, take, vec_items}
use Rattle.nest.specs.Views.{said}
use Rattle.compiler.specs.Orders.{board_orders}
use Rattle.compiler.specs.Seats.{seat_of}
use Rattle.compiler.proofs.view.BoardView.orders.Given as goal

abbrev pub invariant-loop-number : goal.invariant-loop-number
invariant-loop-number l = vec_items l.orders ≡ board_orders (seat_of l.self) (map said (take l.number l.statement-items))
