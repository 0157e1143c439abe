use Rattle.std.proofs.Common.{◌≡◌, subst, arith}
use Rattle.owner_map.specs.Answer.{Given}
use Rattle.owner_map.specs.Meaning.{Deal, Board, share}
use Rattle.sections.proofs.Lookups.{share_small}
use Rattle.sections.proofs.asked.share_of.Goals as goal

pub returns-clause-small : goal.returns-clause-small
returns-clause-small g c =
    let d : Deal = g.M.OwnerMap.meaning c.args.map.now in
    let answer = subst (Given (Board d c.args.board) (λ n. n ≡ share d c.args.board)) c.unwrap.ensures c.owned_count.ensures.answer in
    omega (arith, answer.1, share_small d (g.met.M.OwnerMap.sound c.args.map.now) c.args.board)
