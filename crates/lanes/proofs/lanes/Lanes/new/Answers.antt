use Rattle.std.proofs.Common.{refl}
use Rattle.lanes.proofs.RingRows.{within_empty, lanes_empty}
use Rattle.lanes.proofs.lanes.Lanes.new.Goals as goal

pub invariant_of-result-clause-within : goal.invariant_of-result-clause-within
invariant_of-result-clause-within g c = within_empty c.pair_depth-depth.result 64

pub returns : goal.returns
returns g c = lanes_empty c.args.letters.now c.served_boards-boards.ensures c.pair_depth-depth.ensures.value refl
