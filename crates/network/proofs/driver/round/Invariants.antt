use Rattle.network.specs.Runs.{in_turn}
use Rattle.network.proofs.Going.{Going}
use Rattle.network.proofs.driver.round.Given as goal

abbrev pub invariant-loop-board : goal.invariant-loop-board
invariant-loop-board g l =
    let b = g.N.Boards in
    let start = l.initial.boards in
    Going (b.fixed start) (b.fixed l.boards) (b.state start) (b.state l.boards) (b.left start) (b.left l.boards) (in_turn l.board) l.tally.ran l.tally.ended l.board
