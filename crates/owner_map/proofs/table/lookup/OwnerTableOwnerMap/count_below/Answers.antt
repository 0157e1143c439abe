use Rattle.std.proofs.Common.{◌∙◌, take, arith}
use Rattle.std.proofs.lemmas.List.{length-take-le}
use Rattle.owner_map.specs.Tallies.{tally_counts}
use Rattle.owner_map.proofs.RowSteps.{below_counted}
use Rattle.owner_map.proofs.table.lookup.OwnerTableOwnerMap.count_below.Goals as goal

pub returns : goal.returns
returns c =
    let m = c.args.self.now in
    let k = c.in_ok-below.below in
    let on = c.in_ok-below.ensures in
    let size = length-take-le m.numbers.length m.row (omega arith) in
    ((c.in_ok-check_board.ensures.0, (on.0.0, omega arith)), c.occurrences.ensures ∙ tally_counts c.args.board (take k m.row) ∙ below_counted m.numbers.boards m.numbers.length m.row c.args.board c.args.bound k on.0.1 on.1)
