use Rattle.nest.specs.Nests.{shown}
use Rattle.standing.proofs.FirstPlaces.{enters, enters_in}
use Rattle.standing.proofs.course.Course.orders_from.Goals as goal

pub returns-in-Some : goal.returns-in-Some
returns-in-Some c =
    let n = shown c.args.self.now.nest.now in
    let orders = c.args.self.now.orders.now in
    record {
      todo = enters n orders c.args.sweep c.args.from c.in-Some.k c.place_in.result c.place_in.ensures c.in-Some.ensures;
      there = enters_in n orders c.args.sweep c.args.from c.in-Some.k c.place_in.result c.place_in.ensures c.requires c.in-Some.ensures;
    }
