use Rattle.std.proofs.Common.{vec_items, ap, ◌∙◌}
use Rattle.nest.specs.Terms.{Sheet}
use Rattle.compiler.specs.Seats.{seat_of}
use Rattle.compiler.proofs.OrdersGrow.{orders_more, statement_kept_lem}
use Rattle.compiler.proofs.view.BoardView.orders.Goals as goal

pub push_orders-requires : goal.push_orders-requires
push_orders-requires c =
    let n : Sheet = c.args.self.now.fitted.now.nest in
    statement_kept_lem n c.args.self.now.seated.kept c.statements-statement-items.result.now (c.statements-statement-items.ensures ∙ ap (λ (m : Sheet). m.statements) c.nest.ensures.nest)
    c.loop-number.number c.statement-item.result c.loop-number-test.true c.statement-item.is

pub loop-number-preserved : goal.loop-number-preserved
loop-number-preserved c =
    orders_more (seat_of c.args.self.now) c.statements-statement-items.result.now c.loop-number.number c.statement-item.result (vec_items c.loop-number.orders) (vec_items c.push_orders.new.orders) c.loop-number-test.true c.statement-item.is c.loop-number.invariant c.in_ok-push_orders.ensures
