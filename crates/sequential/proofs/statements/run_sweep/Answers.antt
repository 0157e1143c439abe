use Rattle.sequential.proofs.Kept.{statement_at}
use Rattle.sequential.proofs.statements.run_sweep.Goals as goal

pub invariant_of-running-clause-kept : goal.invariant_of-running-clause-kept
invariant_of-running-clause-kept g c =
    statement_at c.args.layout.now.arrays.now c.args.statements.now c.loop-statement.statement-index c.statement-item.result
    c.requires.kept c.loop-statement-test.true c.statement-item.is
