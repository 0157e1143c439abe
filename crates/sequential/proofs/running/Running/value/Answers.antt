use Rattle.std.proofs.Common.{get_or, le_of_lt, arith}
use Rattle.std.proofs.lemmas.List.{get_or_read}
use Rattle.nest.specs.Views.{said}
use Rattle.sequential.specs.Run.{setting_of}
use Rattle.sequential.proofs.Kept.{parts_of, base_below, read_reached, read_coefficient}
use Rattle.sequential.proofs.TermSums.{value_more}
use Rattle.sequential.proofs.running.Running.value.Goals as goal

pub bounds-coefficients-self : goal.bounds-coefficients-self
bounds-coefficients-self g c = base_below c.args.self.now.layout.arrays.now (said c.args.self.now.statement.now) (parts_of _ _ c.args.self.now.kept) _ c.args.self.now.eight

pub offset_bounds-coefficients-self : goal.offset_bounds-coefficients-self
offset_bounds-coefficients-self g c = le_of_lt (base_below c.args.self.now.layout.arrays.now (said c.args.self.now.statement.now) (parts_of _ _ c.args.self.now.kept) _ c.args.self.now.eight)

pub loop-term-init : goal.loop-term-init
loop-term-init g c =
    get_or_read c.args.self.now.coefficients.now c.args.self.now.statement.now.base c.index-coefficients-self.result
    (base_below c.args.self.now.layout.arrays.now (said c.args.self.now.statement.now) (parts_of _ _ c.args.self.now.kept) _ c.args.self.now.eight)
    c.index-coefficients-self.is

pub place-requires : goal.place-requires
place-requires g c =
    let s = c.args.self.now in
    read_reached s.layout.arrays.now (said s.statement.now) (parts_of _ _ s.kept) c.args.at c.requires.within
    c.as_slice-reads.result.now c.as_slice-reads.ensures.value c.loop-term.term-index _ c.loop-term-test.true

pub bounds-coefficients-term : goal.bounds-coefficients-term
bounds-coefficients-term g c =
    let s = c.args.self.now in
    read_coefficient s.layout.arrays.now (said s.statement.now) (parts_of _ _ s.kept) c.as_slice-reads.result.now c.as_slice-reads.ensures.value c.loop-term.term-index _ _ s.eight c.loop-term-test.true

pub offset_bounds-coefficients-term : goal.offset_bounds-coefficients-term
offset_bounds-coefficients-term g c =
    let s = c.args.self.now in
    le_of_lt (read_coefficient s.layout.arrays.now (said s.statement.now) (parts_of _ _ s.kept) c.as_slice-reads.result.now c.as_slice-reads.ensures.value c.loop-term.term-index _ _ s.eight c.loop-term-test.true)

pub loop-term-preserved : goal.loop-term-preserved
loop-term-preserved g c = λ d.
    let s = c.args.self.now in
    value_more (setting_of g.T.NumberKind.sum g.T.NumberKind.product s.coefficients.now s.layout.arrays.now d)
    c.args.elements.now c.args.at (get_or s.coefficients.now s.statement.now.base d) c.as_slice-reads.result.now c.loop-term.term-index _
    c.place.result c.index-elements-place.result c.index-coefficients-term.result c.times.result c.loop-term.value c.plus-value.result
    c.loop-term-test.true (c.loop-term.invariant d) c.place.ensures.place (omega (arith, c.place.ensures.below)) c.index-elements-place.is
    (read_coefficient s.layout.arrays.now (said s.statement.now) (parts_of _ _ s.kept) c.as_slice-reads.result.now c.as_slice-reads.ensures.value c.loop-term.term-index _ _ s.eight c.loop-term-test.true)
    c.index-coefficients-term.is c.times.ensures c.plus-value.ensures
