use Rattle.std.proofs.Common.{◌≡◌}
use Rattle.network.proofs.Rounds.{RoundsTo}
use Rattle.network.proofs.driver.run_until_quiet.Given as goal

abbrev pub invariant-loop-tally : goal.invariant-loop-tally
invariant-loop-tally g l =
    let b = g.N.Boards in
    let start = l.initial.boards in
    (b.fixed l.boards ≡ b.fixed start) × RoundsTo (b.fixed start) (b.state start) (b.state l.boards)

abbrev pub decreases-loop-tally : goal.decreases-loop-tally
decreases-loop-tally g l = g.N.Boards.left l.boards
