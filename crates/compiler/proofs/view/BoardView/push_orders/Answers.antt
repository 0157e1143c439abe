use Rattle.std.proofs.Common.{sym, ◌∙◌, subst}
use Rattle.nest.specs.Views.{said}
use Rattle.compiler.specs.Making.{AllOrderable}
use Rattle.compiler.specs.Seats.{seat_of}
use Rattle.compiler.proofs.SpansReach.{tasks_orderable}
use Rattle.compiler.proofs.view.BoardView.push_orders.Goals as goal

pub push_task_orders-requires : goal.push_task_orders-requires
push_task_orders-requires c =
    let view = c.args.self.now in
    let s = said c.args.statement.now in
    subst (AllOrderable (seat_of view) s) (sym (c.as_slice.ensures.value ∙ c.in_ok-tasks-in-All.ensures)) (tasks_orderable view.fitted.now view.board view.seated s c.requires)
