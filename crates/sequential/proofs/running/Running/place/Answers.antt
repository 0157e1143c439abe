use Rattle.layout.proofs.PlaceLaws.{place_below}
use Rattle.sequential.specs.Iterations.{position_in}
use Rattle.sequential.proofs.running.Running.place.Goals as goal

pub returns-clause-below : goal.returns-clause-below
returns-clause-below g c =
    let a = c.args.access in
    let found = rw (c.unwrap.ensures, c.position-row.ensures, c.position-column.ensures) at c.place.ensures in
    rw found.1 (place_below c.args.self.now.layout.arrays.now a.array (position_in a.row c.args.at) (position_in a.column c.args.at) found.0)
