use Rattle.std.proofs.Common.{ap, subst, arith}
use Rattle.owner_map.specs.Answer.{Placed}
use Rattle.owner_map.specs.Meaning.{Deal}
use Rattle.sections.proofs.Tablings.{owner_low, rank_low}
use Rattle.sections.proofs.asked.place_of.Goals as goal

pub returns-clause-small : goal.returns-clause-small
returns-clause-small g c =
    let d : Deal = g.M.OwnerMap.meaning c.args.map.now in
    let answer = subst (Placed d c.args.position) c.unwrap.ensures c.place.ensures in
    let sound = g.met.M.OwnerMap.sound c.args.map.now in
    (omega (arith, ap (λ p. p.0) answer.1, owner_low d sound c.args.position answer.0), omega (arith, ap (λ p. p.1) answer.1, rank_low d sound c.args.position answer.0))
