use Rattle.std.proofs.Common.{arith}
use Rattle.lanes.proofs.RingRows.{lanes_put}
use Rattle.lanes.proofs.lanes.LanesPost.put.Goals as goal

pub returns-clause-after : goal.returns-clause-after
returns-clause-after g c =
    lanes_put c.args.self.now c.args.pair.from c.args.pair.to c.in_ok-place.place c.in_ok-place.ensures c.start-start.result _ c.start-start.ensures.value (omega arith) c.push.new.self c.push.new.lane
    c.push.auto.lane c.args.letter c.push.ensures.after
