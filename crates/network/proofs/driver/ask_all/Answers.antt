use Rattle.std.proofs.Common.{rules}
use Rattle.std.proofs.lemmas.List.{take_more, take_all}
use Rattle.network.proofs.Going.{going_start, going_more, came_as}
use Rattle.network.proofs.Rounds.{led_by_any}
use Rattle.network.proofs.driver.ask_all.Goals as goal

pub loop-board-init : goal.loop-board-init
loop-board-init g c =
    let b = g.N.Boards in
    let start = c.args.boards.now in
    going_start (b.fixed start) (b.state start) (b.left start) (search rules) (search rules)

pub loop-board-preserved : goal.loop-board-preserved
loop-board-preserved g c =
    let e = c.request.ensures in
    let f = c.with-total.ensures in
    going_more (g.N.Boards.left c.request.new.self) _ c.request.result c.loop-board.invariant e.asked e.same e.fewer_left f.ran f.ended (take_more c.args.requests.now c.loop-board.board-index 0 c.loop-board-test.true)

pub returns : goal.returns
returns g c =
    let inv = c.loop-board.invariant in
    let b = g.N.Boards in
    let start = c.args.boards.now in
    record {
      came_to = came_as inv.came (take_all _ _ c.loop-board-test.false);
      led = led_by_any (b.fixed start) (b.state start) c.args.requests.now;
      same = inv.same;
    }
