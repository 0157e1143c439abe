use Rattle.std.proofs.Common.{ap, arith, rules}
use Rattle.network.specs.Desks.{owns, letters}
use Rattle.network.specs.Relaying.{MadeOf}
use Rattle.network.proofs.Relayed.{relayed_by}
use Rattle.network.proofs.relay.relayed.Goals as goal

pub returns : goal.returns
returns c =
    let x = c.in_ok-relay.relay in
    let y = c.run_until_quiet.new.boards in
    let e = c.run_until_quiet.ensures in
    let told = c.in_ok-relay.ensures in
    let made : MadeOf c.args.values.now x.count (owns x.desks) (letters x.desks) = search rules in
    relayed_by c.args.values.now x.count (owns x.desks) (letters x.desks) made y.count (owns y.desks) (letters y.desks) _ e.went_round (ap (λ f. f.network) e.same) (omega arith) c.result.result c.result.ensures
