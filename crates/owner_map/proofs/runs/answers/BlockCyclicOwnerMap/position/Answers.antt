use Rattle.std.proofs.Common.{arith}
use Rattle.std.proofs.lemmas.Grind.{common_steps}
use Rattle.std.proofs.lemmas.Bool.Decides.{nat_tests}
use Rattle.owner_map.specs.Runs.{runs_deal}
use Rattle.owner_map.specs.BlockCyclicDeals.{extent_runs, position_runs, none_runs}
use Rattle.owner_map.specs.Deals.{none_past_extent}
use Rattle.owner_map.proofs.runs.answers.BlockCyclicOwnerMap.position.Goals as goal

pub returns-then-rank-self : goal.returns-then-rank-self
returns-then-rank-self c =
    let m = c.args.self.now in
    let e = extent_runs m.width m.numbers.boards m.numbers.length in
    let none = none_past_extent (runs_deal m) c.args.board c.args.rank (omega arith) in
    grind (arith, common_steps)

pub returns : goal.returns
returns c =
    let m = c.args.self.now in
    let round = c.round.ensures.product in
    let board = c.in_ok-check_board.ensures.0 in
    let some = position_runs m.width m.numbers.boards m.numbers.length m.wide m.numbers.within.0 c.args.board c.args.rank board in
    let none = none_runs m.width m.numbers.boards m.numbers.length m.wide m.numbers.within.0 c.args.board c.args.rank board in
    grind (arith, nat_tests)
