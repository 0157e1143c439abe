use Rattle.std.proofs.Common.{arith}
use Rattle.owner_map.specs.BlockCyclicDeals.{extent_runs}
use Rattle.owner_map.proofs.runs.answers.BlockCyclicOwnerMap.length.Goals as goal

pub returns : goal.returns
returns c = omega (arith, extent_runs)
