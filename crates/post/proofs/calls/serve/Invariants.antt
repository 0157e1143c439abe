use Rattle.post.specs.Calls.{Answered}
use Rattle.post.proofs.calls.serve.Given as goal

abbrev pub invariant-loop-k : goal.invariant-loop-k
invariant-loop-k g l = Answered (g.P.Post.mail l.initial.post) l.calls l.initial.replies l.replies (g.P.Post.mail l.post) l.k
