use Rattle.std.proofs.Common.{◌∙◌, take, get_or, arith}
use Rattle.std.proofs.lemmas.List.{length-take-le}
use Rattle.owner_map.specs.Tallies.{tally_counts}
use Rattle.owner_map.proofs.RowSteps.{place_counted}
use Rattle.owner_map.proofs.table.lookup.OwnerTableOwnerMap.place.Goals as goal

pub returns : goal.returns
returns c =
    let m = c.args.self.now in
    let k = c.in_ok-before.before in
    let on = c.in_ok-before.ensures in
    let size = length-take-le m.numbers.length m.row (omega arith) in
    ((on.0.0, omega arith), place_counted m.numbers.boards m.numbers.length m.row c.args.x k c.occurrences.result on.0.0 on.0.1 on.1 (c.occurrences.ensures ∙ tally_counts (get_or m.row k 0) (take k m.row)))
