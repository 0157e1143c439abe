use Rattle.std.proofs.Common.{arith}
use Rattle.std.proofs.lemmas.Grind.{common_steps}
use Rattle.standing.proofs.PhaseSteps.{task_there}
use Rattle.standing.proofs.course.Course.is_in_order.Goals as goal

pub returns-then-in_span-2 : goal.returns-then-in_span-2
returns-then-in_span-2 c = grind (arith, common_steps, task_there)
