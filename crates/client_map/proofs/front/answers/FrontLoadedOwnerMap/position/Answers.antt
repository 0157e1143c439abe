use Rattle.std.proofs.Common.{arith}
use Rattle.std.proofs.lemmas.Grind.{common_steps}
use Rattle.std.proofs.lemmas.Bool.Decides.{nat_tests}
use Rattle.owner_map.specs.Deals.{none_past_extent}
use Rattle.client_map.specs.Loaded.{loaded_deal}
use Rattle.client_map.specs.FrontDeals.{extent_front, position_front, position_behind, none_behind}
use Rattle.client_map.proofs.front.answers.FrontLoadedOwnerMap.position.Goals as goal

pub returns-then-rank-front : goal.returns-then-rank-front
returns-then-rank-front c =
    let m = c.args.self.now in
    let t = position_front m.numbers.boards m.numbers.length m.front m.numbers.within.0 c.args.board c.args.rank c.in_ok-check_board.ensures.0 m.part in
    grind (arith, common_steps)

pub returns-then-rank-self : goal.returns-then-rank-self
returns-then-rank-self c =
    let m = c.args.self.now in
    let e = extent_front m.numbers.boards m.numbers.length m.front in
    let none = none_past_extent (loaded_deal m) c.args.board c.args.rank (omega arith) in
    grind (arith, common_steps)

pub returns : goal.returns
returns c =
    let m = c.args.self.now in
    let front = c.front_of-front.ensures in
    let some = position_behind m.numbers.boards m.numbers.length m.front m.numbers.within.0 c.args.board c.args.rank c.in_ok-check_board.ensures.0 in
    let none = none_behind m.numbers.boards m.numbers.length m.front m.numbers.within.0 c.args.board c.args.rank c.in_ok-check_board.ensures.0 in
    grind (arith, common_steps, nat_tests)
