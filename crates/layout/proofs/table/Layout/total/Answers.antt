use Rattle.layout.proofs.PlaceLaws.{one_place_each}
use Rattle.layout.proofs.table.Layout.total.Goals as goal

pub returns-clause-matching : goal.returns-clause-matching
returns-clause-matching c = one_place_each _
