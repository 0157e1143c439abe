use Rattle.std.proofs.Common.{◌≡◌, ℕ, None, Some, MatchOption, rules, Result}
use Rattle.owner_map.specs.declared.refusal.Refusal.{Refusal}
use Rattle.owner_map.specs.Answer.{Placed}
use Rattle.owner_map.specs.Meaning.{Deal}
use Rattle.owner_map.specs.Deals.{position_undone}
use Rattle.owner_map.proofs.LawAnswers.{placed_again}
use Rattle.owner_map.proofs.laws.place_of_position.Goals as goal

pub returns-in_err-position-clause-law : goal.returns-in_err-position-clause-law
returns-in_err-position-clause-law g c = position_undone (g.M.OwnerMap.meaning c.args.map.now)

pub returns-clause-answer : goal.returns-clause-answer
returns-clause-answer g c =
    let d : Deal = g.M.OwnerMap.meaning c.args.map.now in
    let placed : MatchOption c.in_ok-position.position (c.map.result ≡ None) (λ x. (p : Result (ℕ × ℕ) Refusal) × Placed d x p × (c.map.result ≡ Some p)) = search rules in
    rw c.transpose.ensures (placed_again d c.args.board c.args.rank c.in_ok-position.position c.map.result c.in_ok-position.ensures placed)

pub returns-clause-law : goal.returns-clause-law
returns-clause-law g c = position_undone (g.M.OwnerMap.meaning c.args.map.now)
