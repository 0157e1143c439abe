use Rattle.std.proofs.Common.{sym, arith}
use Rattle.std.proofs.lemmas.Grind.{common_steps}
use Rattle.client_map.specs.FrontDeals.{extent_front, below_front}
use Rattle.client_map.proofs.front.answers.FrontLoadedOwnerMap.count_below.Goals as goal

pub returns-in_err-before : goal.returns-in_err-before
returns-in_err-before c =
    let m = c.args.self.now in
    let e = extent_front m.numbers.boards m.numbers.length m.front in
    grind (arith, common_steps)

pub returns : goal.returns
returns c =
    let m = c.args.self.now in
    let e = extent_front m.numbers.boards m.numbers.length m.front in
    let board = c.in_ok-check_board.ensures.0 in
    let on = c.in_ok-before.ensures in
    let t = below_front m.numbers.boards m.numbers.length m.front m.numbers.within.0 c.args.board c.args.bound board on.0.1 in
    ((board, (on.0.0, omega arith)), rw (c.min-in_front.ensures, c.saturating_sub-dealt.ensures, c.front_of.ensures, on.1) (sym t))
