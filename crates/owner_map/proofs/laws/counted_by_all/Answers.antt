use Rattle.std.proofs.Common.{◌≡◌, ap, ◌∙◌, arith}
use Rattle.owner_map.specs.Meaning.{Deal, Bound, below, sum_over}
use Rattle.owner_map.specs.Deals.{below_le, counts_add_up, sum_over_more}
use Rattle.owner_map.proofs.laws.counted_by_all.Goals as goal

pub overflow_add-total : goal.overflow_add-total
overflow_add-total g c =
    let d : Deal = g.M.OwnerMap.meaning c.args.map.now in
    let one = c.in_ok-total.ensures in
    let most = below_le d c.loop-board.board c.args.bound in
    let sound = g.met.M.OwnerMap.sound c.args.map.now in
    omega arith

pub loop-board-preserved : goal.loop-board-preserved
loop-board-preserved g c =
    let d : Deal = g.M.OwnerMap.meaning c.args.map.now in
    let one = c.in_ok-total.ensures in
    let most = below_le d c.loop-board.board c.args.bound in
    let sound = g.met.M.OwnerMap.sound c.args.map.now in
    let more = sum_over_more c.loop-board.board (λ b. below d b c.args.bound) in
    (c.loop-board.invariant.0, omega arith, omega arith, λ _. one.0.1)

pub returns-clause-answer : goal.returns-clause-answer
returns-clause-answer g c =
    let d : Deal = g.M.OwnerMap.meaning c.args.map.now in
    let all : c.loop-board.board ≡ d.boards = omega arith in
    let on : Bound d c.args.bound = c.loop-board.invariant.3 (omega (arith, g.met.M.OwnerMap.sound c.args.map.now)) in
    (on, c.loop-board.invariant.2 ∙ ap (λ p. sum_over p (λ b. below d b c.args.bound)) all ∙ counts_add_up d (g.met.M.OwnerMap.sound c.args.map.now) c.args.bound on)
