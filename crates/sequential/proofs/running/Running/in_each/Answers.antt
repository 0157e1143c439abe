use Rattle.std.proofs.Common.{◌≡◌, ◌+◌, arith}
use Rattle.nest.specs.Views.{said}
use Rattle.sequential.specs.Run.{buffers_of}
use Rattle.sequential.proofs.Kept.{parts_of, range_of_lem}
use Rattle.sequential.proofs.Turns.{row_more, rows_more, rows_all}
use Rattle.sequential.proofs.running.Running.in_each.Goals as goal

pub loop-j-preserved : goal.loop-j-preserved
loop-j-preserved g c = λ f steps.
    row_more f (buffers_of c.loop-i.elements c.loop-i.held) c.loop-i.i c.args.self.now.statement.now.j c.loop-j.j
    (buffers_of c.loop-j.elements c.loop-j.held) (buffers_of c.step.new.arg3 c.step.new.arg4) (omega arith) (c.loop-j.invariant f steps)
    (steps (record { i = c.loop-i.i; j = c.loop-j.j }) _ _ _ _ (omega arith, omega arith, omega arith, omega arith)
    (record { elements_all = omega arith; held_all = omega arith }) c.step.ensures)

pub loop-i-preserved : goal.loop-i-preserved
loop-i-preserved g c = λ f steps.
    let s = said c.args.self.now.statement.now in
    let kept = parts_of c.args.self.now.layout.arrays.now s c.args.self.now.kept in
    let end : c.loop-j.j ≡ c.args.self.now.statement.now.j.high + 1 = omega (arith, range_of_lem s.j kept.j) in
    rows_more f (buffers_of c.args.elements.now c.args.held.now) s.i s.j c.loop-i.i c.loop-j.j
    (buffers_of c.loop-i.elements c.loop-i.held) (buffers_of c.loop-j.elements c.loop-j.held)
    (omega arith) end (c.loop-i.invariant f steps) (c.loop-j.invariant f steps)

pub returns : goal.returns
returns g c = λ f steps.
    let s = said c.args.self.now.statement.now in
    let kept = parts_of c.args.self.now.layout.arrays.now s c.args.self.now.kept in
    let end : c.loop-i.i ≡ c.args.self.now.statement.now.i.high + 1 = omega (arith, range_of_lem s.i kept.i) in
    rows_all f (buffers_of c.args.elements.now c.args.held.now) s.i s.j c.loop-i.i
    (buffers_of c.loop-i.elements c.loop-i.held) end (c.loop-i.invariant f steps)
