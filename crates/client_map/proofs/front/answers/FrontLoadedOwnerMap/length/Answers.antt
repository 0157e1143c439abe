use Rattle.std.proofs.Common.{arith}
use Rattle.client_map.specs.FrontDeals.{extent_front}
use Rattle.client_map.proofs.front.answers.FrontLoadedOwnerMap.length.Goals as goal

pub returns : goal.returns
returns c = let m = c.args.self.now in omega (arith, extent_front m.numbers.boards m.numbers.length m.front)
