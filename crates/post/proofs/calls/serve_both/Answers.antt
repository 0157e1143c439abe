use Rattle.std.proofs.Common.{refl, arith, length-take}
use Rattle.post.proofs.CallRuns.{answered_front, alike}
use Rattle.post.proofs.calls.serve_both.Goals as goal

pub returns-clause-agree : goal.returns-clause-agree
returns-clause-agree g c =
    let n = c.min-number.result in
    let long = length-take n c.args.calls.now in
    let one = answered_front c.serve.ensures.answered refl (omega (arith, c.serve.ensures.number, long)) in
    let other = answered_front c.serve-2.ensures.answered refl (omega (arith, c.serve-2.ensures.number, long)) in
    λ same. alike one other same

pub returns-clause-one : goal.returns-clause-one
returns-clause-one g c =
    let long = length-take c.min-number.result c.args.calls.now in
    answered_front c.serve.ensures.answered refl (omega (arith, c.serve.ensures.number, long))

pub returns-clause-other : goal.returns-clause-other
returns-clause-other g c =
    let long = length-take c.min-number.result c.args.calls.now in
    answered_front c.serve-2.ensures.answered refl (omega (arith, c.serve-2.ensures.number, long))
