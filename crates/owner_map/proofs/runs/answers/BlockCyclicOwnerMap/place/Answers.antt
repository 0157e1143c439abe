use Rattle.std.proofs.Common.{sym, arith}
use Rattle.std.proofs.lemmas.Grind.{common_steps}
use Rattle.owner_map.specs.BlockCyclicDeals.{extent_runs, place_runs}
use Rattle.owner_map.proofs.runs.answers.BlockCyclicOwnerMap.place.Goals as goal

pub returns-in_err-before : goal.returns-in_err-before
returns-in_err-before c =
    let m = c.args.self.now in
    let e = extent_runs m.width m.numbers.boards m.numbers.length in
    grind (arith, common_steps)

pub returns : goal.returns
returns c =
    let m = c.args.self.now in
    let e = extent_runs m.width m.numbers.boards m.numbers.length in
    let on = c.in_ok-before.ensures in
    (omega arith, rw (on.1, c.round.ensures.product) (sym (place_runs m.width m.numbers.boards m.numbers.length m.wide m.numbers.within.0 c.args.x on.0.0 on.0.1)))
