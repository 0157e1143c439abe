use Rattle.std.proofs.Common.{◌≡◌, ◌<◌, length, sym, refl, ap, ◌∙◌, arith, length-set}
use Rattle.layout.specs.Places.{start_of}
use Rattle.layout.proofs.Starts.{begun_more, start_none, start_more, start_all, sum_room}
use Rattle.layout.proofs.places.layout_of.Goals as goal

pub loop-t-init : goal.loop-t-init
loop-t-init c = (refl, sym (start_none c.args.arrays.now), λ k h. absurd (omega arith))

pub overflow_add-total : goal.overflow_add-total
overflow_add-total c = omega (arith, c.loop-t.invariant.1, sum_room c.args.arrays.now c.loop-t.t c.requires.0 c.requires.1 c.loop-t-test.true)

pub loop-t-preserved : goal.loop-t-preserved
loop-t-preserved c =
    let room : c.loop-t.t < length c.loop-t.starts = omega (arith, c.loop-t.invariant.0, c.requires.0) in (
      length-set c.loop-t.starts c.loop-t.t c.loop-t.total ∙ c.loop-t.invariant.0,
      omega (arith, c.loop-t.invariant.1, start_more c.args.arrays.now c.loop-t.t c.loop-t-test.true),
      begun_more c.args.arrays.now c.loop-t.starts c.loop-t.t c.loop-t.total room c.loop-t.invariant.2 c.loop-t.invariant.1,
    )

pub invariant_of-result : goal.invariant_of-result
invariant_of-result c =
    let end : c.loop-t.t ≡ length c.args.arrays.now = omega (arith, c.loop-t-test.false, c.loop-t.auto.t-end) in record { few = c.requires.0; small = c.requires.1; begun = (λ k h. c.loop-t.invariant.2 k (omega arith)); summed = c.loop-t.invariant.1 ∙ ap (start_of c.args.arrays.now) end ∙ start_all c.args.arrays.now }
