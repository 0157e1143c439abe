use Rattle.std.proofs.Common.{[], ◌∷◌, rules}
use Rattle.network.proofs.Exchanged.{completes}
use Rattle.network.proofs.pair.Pair.new.Goals as goal

pub returns-clause-complete : goal.returns-clause-complete
returns-clause-complete c = completes (c.start.result ∷ c.start-2.result ∷ []) c.args.first c.args.second (search rules)
