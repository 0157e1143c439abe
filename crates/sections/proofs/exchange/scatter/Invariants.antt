use Rattle.sections.proofs.Walks.{SameTo}
use Rattle.sections.proofs.exchange.scatter.Given as goal

abbrev pub invariant-loop-place : goal.invariant-loop-place
invariant-loop-place g l = SameTo l.fitted l.arrays l.sections l.place
