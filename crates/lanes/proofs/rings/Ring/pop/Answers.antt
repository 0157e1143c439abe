use Rattle.std.proofs.Common.{sym, ap, drop}
use Rattle.post.specs.Mail.{oldest}
use Rattle.lanes.proofs.Turns.{ring_popped}
use Rattle.lanes.proofs.rings.Ring.pop.Goals as goal

pub returns-clause-answer : goal.returns-clause-answer
returns-clause-answer g c = sym (ap oldest (ring_popped c.args.lane.now c.args.self.now c.requires.fits c.index-lane-self.result c.round-self.result c.if-self-eq0.false c.index-lane-self.is c.round-self.ensures.value))

pub returns-clause-after : goal.returns-clause-after
returns-clause-after g c = sym (ap (drop 1) (ring_popped c.args.lane.now c.args.self.now c.requires.fits c.index-lane-self.result c.round-self.result c.if-self-eq0.false c.index-lane-self.is c.round-self.ensures.value))
