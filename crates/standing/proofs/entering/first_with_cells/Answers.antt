use Rattle.std.proofs.Common.{◌≡◌, true, false, arith, rules}
use Rattle.std.proofs.lemmas.Grind.{common_steps}
use Rattle.std.proofs.lemmas.Iterator.{first_from_Range}
use Rattle.standing.specs.Left.{order_at}
use Rattle.standing.specs.Moves.{has_cells}
use Rattle.standing.proofs.CellLists.{first_passes}
use Rattle.standing.proofs.entering.first_with_cells.Goals as goal

pub returns : goal.returns
returns c =
    first_passes c.args.orders.now c.args.from c.find.result
    (first_from_Range _ _ _ c.find.result (λ k. has_cells (order_at c.args.orders.now k) ≡ true) (λ k. has_cells (order_at c.args.orders.now k) ≡ false) c.find.ensures.ran (λ k f ran. grind (arith, common_steps)) (λ k f ran. (search rules, grind (arith, common_steps))))
