use Rattle.owner_map.proofs.MakeDeals.{makes_agree, runs_are_make}
use Rattle.owner_map.proofs.runs.dealing.deal_out.Goals as goal

pub returns-in_err-width-clause-agree : goal.returns-in_err-width-clause-agree
returns-in_err-width-clause-agree c = λ sizes. makes_agree c.args.boards c.args.length sizes.0

pub returns-clause-dealt : goal.returns-clause-dealt
returns-clause-dealt c =
    let width = c.in_ok-width.ensures.width in
    (width.0, runs_are_make c.args.make c.args.boards c.args.length c.in_ok-width.width width.0 width.1)

pub returns-clause-agree : goal.returns-clause-agree
returns-clause-agree c = λ sizes. makes_agree c.args.boards c.args.length sizes.0
