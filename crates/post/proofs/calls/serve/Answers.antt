use Rattle.std.proofs.Common.{◌≡◌, arith}
use Rattle.post.proofs.CallRuns.{answered_more}
use Rattle.post.proofs.calls.serve.Goals as goal

pub loop-k-preserved : goal.loop-k-preserved
loop-k-preserved g c = answered_more c.index-calls-k.result c.make_call.result c.loop-k.invariant (omega arith) (omega arith) c.index-calls-k.is c.make_call.ensures.answer c.make_call.ensures.after

pub returns-clause-answered : goal.returns-clause-answered
returns-clause-answered g c =
    let end : c.loop-k.k ≡ c.min-number.result = omega arith in
    rw end at c.loop-k.invariant
