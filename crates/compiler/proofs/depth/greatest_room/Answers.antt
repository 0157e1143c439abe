use Rattle.std.proofs.Common.{◌≡◌, max, arith}
use Rattle.compiler.specs.PairRooms.{room_of}
use Rattle.compiler.proofs.GreatestRooms.{folded_map_more, rooms_more}
use Rattle.compiler.proofs.depth.greatest_room.Goals as goal

pub loop-to-preserved : goal.loop-to-preserved
loop-to-preserved c =
    folded_map_more max c.loop-from.greatest (room_of c.args.mode c.args.pairs.now.counts c.loop-from.from) c.loop-to.to c.room_for-room.result
    c.loop-to.greatest c.max-greatest.result c.loop-to.invariant c.room_for-room.ensures c.max-greatest.ensures

pub loop-from-preserved : goal.loop-from-preserved
loop-from-preserved c =
    let end : c.loop-to.to ≡ c.args.boards = omega arith in
    rooms_more c.args.mode c.args.boards c.args.pairs.now.counts c.loop-from.from c.loop-to.to c.loop-from.greatest c.loop-to.greatest end c.loop-from.invariant c.loop-to.invariant
