use Rattle.std.proofs.Common.{◌+◌, ◌≤◌, ◌∙◌, arith, rules, length-take}
use Rattle.owner_map.proofs.RowSteps.{below_counted}
use Rattle.sections.proofs.Lookups.{extent_is}
use Rattle.sections.proofs.lookup.MapTableOwnerMap.count_below.Goals as goal

pub occurrences-requires : goal.occurrences-requires
occurrences-requires c =
    let m = c.args.self.now in
    let is = c.numbers-numbers.ensures in
    (omega (arith, c.in_ok-check_board.ensures.0, is.0, m.sound.1), search (rules, length-take))

pub returns : goal.returns
returns c =
    let m = c.args.self.now in
    let k = c.in_ok-below.below in
    let on = c.in_ok-below.ensures in
    let is = c.numbers-numbers.ensures in
    let size = extent_is m.boards m.size m.owners m.fits m.owner_room in
    let high : c.args.bound ≤ m.size + 1 = omega (arith, on.0.1, is.1) in
    ((omega (arith, c.in_ok-check_board.ensures.0, is.0), (on.0.0, omega arith)), c.occurrences.ensures ∙ below_counted m.boards m.size m.owners c.args.board c.args.bound k high on.1)
