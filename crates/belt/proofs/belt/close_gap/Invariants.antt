use Rattle.belt.proofs.Gaps.{Closing}
use Rattle.belt.proofs.belt.close_gap.Given as goal

abbrev pub invariant-loop-k : goal.invariant-loop-k
invariant-loop-k g l = Closing l.gone l.initial.slots l.slots l.k
