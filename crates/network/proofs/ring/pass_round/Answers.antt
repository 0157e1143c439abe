use Rattle.std.proofs.Common.{length, ap, rules}
use Rattle.network.proofs.Turning.{first_same, second_same, went_as}
use Rattle.network.proofs.ring.pass_round.Goals as goal

pub returns : goal.returns
returns c =
    let e = c.run_until_quiet.ensures in
    let lent = ap (λ f. f.lent) e.same in
    let first = first_same lent in
    let second = second_same lent in
    (search rules, went_as (length c.args.seats.now) e.went_round (search rules) (search rules) (search rules) (search rules))
