use Rattle.std.proofs.Common.{◌≤◌, map, subst, arith}
use Rattle.nest.specs.Nests.{shown}
use Rattle.layout.specs.Places.{total}
use Rattle.sections.specs.DealtNests.{DealtNest, nest_dealt}
use Rattle.sections.proofs.Exchanges.{sections_back}
use Rattle.sections.proofs.Walks.{SameTo, same_all}
use Rattle.sections.proofs.exchange.gather.Goals as goal

pub returns : goal.returns
returns g c =
    let kept = c.in_ok-fitted.ensures in
    let d : DealtNest = nest_dealt (shown c.args.nest.now) (map g.R.OwnerMap.meaning c.args.row_maps.now) (map g.C.OwnerMap.meaning c.args.column_maps.now) in
    let all : total d.nest.arrays ≤ c.loop-place.place = omega (arith, kept.2.0, c.loop-place-test.false) in
    let same = same_all d c.loop-place.arrays c.args.sections.now c.loop-place.place (subst (λ f. SameTo f c.loop-place.arrays c.args.sections.now c.loop-place.place) kept.0 c.loop-place.invariant) all in
    record { answer = (kept.1.0, kept.2, same); undone = sections_back d.nest d.deals c.loop-place.arrays c.args.sections.now same kept.1.0 kept.1.1 kept.2.1 }
