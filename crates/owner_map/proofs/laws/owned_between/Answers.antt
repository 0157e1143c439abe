use Rattle.owner_map.specs.Deals.{positions_rise}
use Rattle.owner_map.proofs.laws.owned_between.Goals as goal

pub returns-in_err-end-clause-rise : goal.returns-in_err-end-clause-rise
returns-in_err-end-clause-rise g c = positions_rise (g.M.OwnerMap.meaning c.args.map.now)

pub returns-clause-rise : goal.returns-clause-rise
returns-clause-rise g c = positions_rise (g.M.OwnerMap.meaning c.args.map.now)
