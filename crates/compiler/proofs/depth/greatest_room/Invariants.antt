use Rattle.std.proofs.Common.{◌≡◌, max, map, fold}
use Rattle.std.specs.List.{range_with_len, flat_map}
use Rattle.compiler.specs.PairRooms.{room_of, rooms_from}
use Rattle.compiler.proofs.depth.greatest_room.Given as goal

abbrev pub invariant-loop-to : goal.invariant-loop-to
invariant-loop-to l = l.greatest ≡ fold max l.initial.greatest (map (room_of l.mode l.pairs.counts l.from) (range_with_len 0 l.to))

abbrev pub invariant-loop-from : goal.invariant-loop-from
invariant-loop-from l = l.greatest ≡ fold max 0 (flat_map (rooms_from l.mode l.boards l.pairs.counts) (range_with_len 0 l.from))
