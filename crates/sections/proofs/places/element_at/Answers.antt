use Rattle.std.proofs.Common.{◌≡◌, length, ap, arith}
use Rattle.layout.specs.Places.{start_of}
use Rattle.layout.proofs.Starts.{start_none, start_more, start_all}
use Rattle.sections.proofs.Elements.{array_ends, element_found}
use Rattle.sections.proofs.places.element_at.Goals as goal

pub loop-which-init : goal.loop-which-init
loop-which-init c = omega (arith, start_none c.args.arrays.now)

pub overflow_mul-size : goal.overflow_mul-size
overflow_mul-size c = omega (arith, array_ends c.args.arrays.now c.loop-which.which c.loop-which-test.true)

pub returns-then-left-size : goal.returns-then-left-size
returns-then-left-size c =
    element_found c.args.arrays.now c.loop-which.which c.loop-which.left c.args.place c.loop-which-test.true c.if-left-size.true c.loop-which.invariant

pub loop-which-preserved : goal.loop-which-preserved
loop-which-preserved c = omega (arith, start_more c.args.arrays.now c.loop-which.which c.loop-which-test.true)

pub returns : goal.returns
returns c =
    let end : c.loop-which.which ≡ length c.args.arrays.now = omega (arith, c.loop-which-test.false, c.loop-which.auto.which-end) in
    omega (arith, ap (start_of c.args.arrays.now) end, start_all c.args.arrays.now)
