use Rattle.std.proofs.Common.{◌≡◌, ◌+◌, ◌*◌, ◌≤◌, get_or, sym, ap, ◌∙◌, arith}
use Rattle.nest.specs.Terms.{Sheet}
use Rattle.compiler.specs.Seats.{statements_of}
use Rattle.compiler.specs.StepCounts.{read_counts, task_count}
use Rattle.compiler.proofs.OrdersShort.{statements_few}
use Rattle.compiler.proofs.StepNumbers.{reads_at}
use Rattle.compiler.proofs.view.BoardView.task_count.Goals as goal

-- the number of reads, which is small
reads : (c : goal.After-len) → (c.len.result ≡ get_or (read_counts (statements_of c.args.self.now)) c.args.number 0) × (c.len.result ≤ 4)
reads c =
    let view = c.args.self.now in
    reads_at c.statements.result.now (statements_of view) (c.statements.ensures ∙ ap (λ (n : Sheet). n.statements) c.nest.ensures.nest) c.args.number c.index-statements-number.result c.len.result
    c.requires (statements_few view.fitted.now view.board view.seated) c.len.ensures

pub overflow_add-result : goal.overflow_add-result
overflow_add-result c = omega (arith, (reads c).1)

pub returns-in-Walk : goal.returns-in-Walk
returns-in-Walk c = record {
  value = ap (λ n. 2 * n + 2) (reads c).0 ∙ ap (task_count (read_counts (statements_of c.args.self.now)) c.args.number) (sym c.in-Walk.is);
  small = omega (arith, (reads c).1);
}
