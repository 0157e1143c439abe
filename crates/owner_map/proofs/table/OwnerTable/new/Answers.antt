use Rattle.std.proofs.Common.{◌<◌, ◌≤◌, refl, arith, rules, tests}
use Rattle.std.proofs.lemmas.Iterator.{cases_from_any, YieldsList-from_slice}
use Rattle.owner_map.proofs.RowSteps.{owner_listed}
use Rattle.owner_map.proofs.table.OwnerTable.new.Goals as goal

pub returns-then-any : goal.returns-then-any
returns-then-any c =
    let os = c.args.owners.now in
    let by_call = cases_from_any _ _ _ (λ o. c.args.boards ≤ o) (λ o. o < c.args.boards) c.any.ensures.ran (YieldsList-from_slice os cc) (λ x q k. search (rules, tests)) (λ x q k. search (rules, tests)) in
    let found = rw c.if-any.true at by_call in
    (λ sound. omega (arith, found.2 0, owner_listed c.args.boards os sound found.0 found.1), refl)
