use Rattle.std.proofs.Common.{◌≡◌, ◌*◌, ◌≤◌, List, length, sym, ap, ◌∙◌, subst, ap₂, mul-le-mul, arith}
use Rattle.std.proofs.ByRecursion.{All-get_or}
use Rattle.std.proofs.lemmas.List.{take_all}
use Rattle.nest.proofs.Keeps.{nest_parts}
use Rattle.nest.specs.Terms.{Sheet}
use Rattle.compiler.specs.declared.order.Order.{Order}
use Rattle.compiler.specs.declared.view.BoardView.{BoardView}
use Rattle.compiler.specs.Orders.{board_orders}
use Rattle.compiler.specs.Seats.{seat_of, statements_of}
use Rattle.compiler.specs.StepCounts.{Short, FewOrders, step_counts}
use Rattle.compiler.proofs.CellCounts.{sweep_counted}
use Rattle.compiler.proofs.OrdersShort.{board_orders_few}
use Rattle.compiler.proofs.view.BoardView.steps.Goals as goal

-- the orders of a board are few and short
few : (view : BoardView) (orders : List Order) → orders ≡ board_orders (seat_of view) (statements_of view) → FewOrders (statements_of view) orders
few view orders own = subst (FewOrders (statements_of view)) (sym own) (board_orders_few view.fitted.now view.board view.seated)

pub order_steps-steps-requires : goal.order_steps-steps-requires
order_steps-steps-requires c =
    All-get_or (Short (length (statements_of c.args.self.now))) c.args.orders.now c.loop-order.order-index _ c.loop-order-test.true (few c.args.self.now c.args.orders.now c.requires).1

pub overflow_add-steps : goal.overflow_add-steps
overflow_add-steps c =
    omega (arith, c.loop-order.invariant.1, c.order_steps-steps.ensures.small, c.loop-order-test.true, (few c.args.self.now c.args.orders.now c.requires).0)

-- sweeps times the steps of one sweep is a small number
small : (c : goal.After-sweeps) → c.sweeps.result * c.loop-order.steps ≤ 871200000
small c =
    let n : Sheet = c.args.self.now.fitted.now.nest in
    let sweeps : c.sweeps.result ≤ 1000 =
    omega (arith, c.sweeps.ensures, ap (λ (m : Sheet). m.sweeps) c.nest.ensures.nest, (nest_parts n.grid n.arrays n.sweeps n.statements c.args.self.now.seated.kept).few_sweeps) in
    let steps : c.loop-order.steps ≤ 871200 = omega (arith, c.loop-order.invariant.1, c.loop-order.auto.order-index-end, (few c.args.self.now c.args.orders.now c.requires).0) in
    mul-le-mul sweeps steps

pub overflow_mul-result : goal.overflow_mul-result
overflow_mul-result c = omega (arith, small c)

pub returns : goal.returns
returns c =
    let statements = statements_of c.args.self.now in
    let all = take_all c.loop-order.order-index c.args.orders.now c.loop-order-test.false ∙ c.requires in
    let one = c.loop-order.invariant.0 ∙ ap (step_counts statements) all ∙ sweep_counted statements (seat_of c.args.self.now) in
    record { value = ap₂ (λ m k. m * k) (c.sweeps.ensures ∙ ap (λ (m : Sheet). m.sweeps) c.nest.ensures.nest) one; small = small c }
