use Rattle.std.proofs.Common.{arith, refl}
use Rattle.lanes.proofs.RingRows.{lanes_take}
use Rattle.lanes.proofs.lanes.LanesPost.take.Goals as goal

pub returns-clause-after : goal.returns-clause-after
returns-clause-after g c =
    lanes_take c.args.self.now c.args.pair.from c.args.pair.to c.in_ok-place.place c.in_ok-place.ensures c.start-start.result _ c.start-start.ensures.value (omega arith) c.pop.new.self _ refl c.pop.ensures.after
