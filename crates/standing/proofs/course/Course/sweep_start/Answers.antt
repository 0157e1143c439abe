use Rattle.std.proofs.Common.{◌<◌, ap, ◌∙◌, arith}
use Rattle.nest.specs.Nests.{shown}
use Rattle.standing.specs.Left.{todo_of}
use Rattle.standing.proofs.FirstPlaces.{enters_sweep, enters_in, sweeps_idle}
use Rattle.standing.proofs.course.Course.sweep_start.Goals as goal

pub returns-in_err-k-clause-todo : goal.returns-in_err-k-clause-todo
returns-in_err-k-clause-todo c =
    let n = shown c.args.self.now.nest.now in
    let orders = c.args.self.now.orders.now in
    λ b. ap (todo_of b n orders) c.from_residual.ensures ∙ sweeps_idle n orders c.args.sweep c.in_err-k.ensures b

pub returns : goal.returns
returns c =
    let n = shown c.args.self.now.nest.now in
    let orders = c.args.self.now.orders.now in
    let early : c.args.sweep < n.sweeps = omega arith in
    record {
      todo = enters_sweep n orders c.args.sweep c.in_ok-k.k c.place_in.result c.place_in.ensures early c.in_ok-k.ensures;
      there = enters_in n orders c.args.sweep 0 c.in_ok-k.k c.place_in.result c.place_in.ensures early c.in_ok-k.ensures;
    }
