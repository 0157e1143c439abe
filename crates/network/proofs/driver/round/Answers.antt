use Rattle.std.proofs.Common.{ap, arith, rules}
use Rattle.network.specs.Runs.{in_turn}
use Rattle.network.proofs.Going.{going_start, going_more, in_turn_more, came_as}
use Rattle.network.proofs.driver.round.Goals as goal

pub loop-board-init : goal.loop-board-init
unfolding in_turn
loop-board-init g c =
    let b = g.N.Boards in
    let start = c.args.boards.now in
    going_start (b.fixed start) (b.state start) (b.left start) (search rules) (search rules)

pub loop-board-preserved : goal.loop-board-preserved
loop-board-preserved g c =
    let e = c.request.ensures in
    let f = c.with-tally.ensures in
    going_more (g.N.Boards.left c.request.new.self) c.loop-board.board c.request.result c.loop-board.invariant e.asked e.same e.fewer_left f.ran f.ended (in_turn_more c.loop-board.board)

pub returns : goal.returns
returns g c =
    let inv = c.loop-board.invariant in
    record { came_to = came_as inv.came (ap in_turn (omega arith)); same = inv.same; fewer_left = inv.fewer }
