use Rattle.owner_map.specs.Deals.{ranks_without_gap}
use Rattle.owner_map.proofs.laws.owned_count.Goals as goal

pub returns-clause-law : goal.returns-clause-law
returns-clause-law g c = ranks_without_gap (g.M.OwnerMap.meaning c.args.map.now)
