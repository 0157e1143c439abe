use Rattle.std.proofs.Common.{take}
use Rattle.network.proofs.Going.{Going}
use Rattle.network.proofs.driver.ask_all.Given as goal

abbrev pub invariant-loop-board : goal.invariant-loop-board
invariant-loop-board g l =
    let b = g.N.Boards in
    let start = l.initial.boards in
    Going (b.fixed start) (b.fixed l.boards) (b.state start) (b.state l.boards) (b.left start) (b.left l.boards) (take l.board-index l.requests) l.total.ran l.total.ended l.board-index
