use Rattle.network.proofs.Exchanged.{both_exchanged}
use Rattle.network.proofs.pair.exchanged.Goals as goal

pub returns : goal.returns
returns c =
    let both = both_exchanged _ c.new-pair.ensures.desks c.run_until_quiet.ensures.went_round in
    cc
