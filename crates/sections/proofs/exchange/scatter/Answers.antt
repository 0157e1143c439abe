use Rattle.std.proofs.Common.{◌≡◌, ◌≤◌, map, length, sym, ap, ◌∙◌, subst, arith}
use Rattle.nest.specs.Nests.{shown}
use Rattle.layout.specs.Places.{total}
use Rattle.sections.specs.DealtNests.{DealtNest, IsFitted, nest_dealt}
use Rattle.sections.proofs.Exchanges.{arrays_back}
use Rattle.sections.proofs.Orders.{place_is_index}
use Rattle.sections.proofs.SectionPlaces.{one_section_each}
use Rattle.sections.proofs.Walks.{SameTo, scattered, same_all}
use Rattle.sections.proofs.exchange.scatter.Goals as goal

pub loop-place-preserved : goal.loop-place-preserved
loop-place-preserved g c =
    let kept = c.in_ok-fitted.ensures in
    let f : DealtNest = c.in_ok-fitted.fitted in
    let long : total f.nest.arrays ≡ length c.args.arrays.now = ap (λ (d : DealtNest). total d.nest.arrays) kept.0 ∙ sym kept.2.0 in
    scattered f c.args.arrays.now c.loop-place.sections c.loop-place.place c.loop-place.invariant c.section_at.result c.section_at.ensures.beside c.index-arrays-place.result
    (subst IsFitted (sym kept.0) kept.1) (omega (arith, c.loop-place-test.true)) (omega (arith, c.section_at.ensures.low, kept.2.0, kept.2.1, c.loop-place.auto.sections)) c.loop-place-test.true c.index-arrays-place.is

pub returns : goal.returns
returns g c =
    let kept = c.in_ok-fitted.ensures in
    let d : DealtNest = nest_dealt (shown c.args.nest.now) (map g.R.OwnerMap.meaning c.args.row_maps.now) (map g.C.OwnerMap.meaning c.args.column_maps.now) in
    let all : total d.nest.arrays ≤ c.loop-place.place = omega (arith, kept.2.0, c.loop-place-test.false) in
    let same = same_all d c.args.arrays.now c.loop-place.sections c.loop-place.place (subst (λ f. SameTo f c.args.arrays.now c.loop-place.sections c.loop-place.place) kept.0 c.loop-place.invariant) all in
    record {
      answer = (kept.1.0, kept.2, same);
      matching = one_section_each d.nest.grid d.nest.arrays d.deals kept.1.0 kept.1.1;
      order = place_is_index d.nest.grid d.nest.arrays d.deals kept.1.0 kept.1.1;
      undone = arrays_back d.nest d.deals c.args.arrays.now c.loop-place.sections same kept.2.0;
    }
