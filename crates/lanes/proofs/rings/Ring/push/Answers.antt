use Rattle.std.proofs.Common.{arith}
use Rattle.std.proofs.lemmas.Bool.Decides.{nat_tests}
use Rattle.std.proofs.lemmas.Grind.{common_steps}
use Rattle.lanes.proofs.Turns.{ring_pushed}
use Rattle.lanes.proofs.rings.Ring.push.Goals as goal

pub returns-clause-after : goal.returns-clause-after
returns-clause-after g c = grind (arith, common_steps, nat_tests, ring_pushed c.args.lane.now c.args.self.now c.requires.fits c.round.result c.args.letter c.if-self-lane.false c.round.ensures.value)
