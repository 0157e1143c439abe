use Rattle.std.proofs.Common.{arith}
use Rattle.std.proofs.lemmas.Grind.{common_steps}
use Rattle.owner_map.specs.BlockCyclicDeals.{extent_runs, below_runs}
use Rattle.owner_map.proofs.runs.answers.BlockCyclicOwnerMap.count_below.Goals as goal

pub returns-in_err-before : goal.returns-in_err-before
returns-in_err-before c =
    let m = c.args.self.now in
    let e = extent_runs m.width m.numbers.boards m.numbers.length in
    grind (arith, common_steps)

pub returns : goal.returns
returns c =
    let m = c.args.self.now in
    let e = extent_runs m.width m.numbers.boards m.numbers.length in
    let board = c.in_ok-check_board.ensures.0 in
    let on = c.in_ok-before.ensures in
    let t = below_runs m.width m.numbers.boards m.numbers.length m.wide m.numbers.within.0 c.args.board c.args.bound board on.0.1 in
    ((board, (on.0.0, omega arith)), rw (c.min.ensures, c.saturating_sub-begun.ensures, c.round-round.ensures.product, on.1) (omega arith))
