use Rattle.std.proofs.Common.{◌≡◌, get_or, take, fold}
use Rattle.sequential.specs.Run.{setting_of, with_term}
use Rattle.sequential.proofs.running.Running.value.Given as goal

abbrev pub invariant-loop-term : goal.invariant-loop-term
invariant-loop-term g l =
    (d : g.row.T.Denot)
    → l.value ≡ fold (with_term (setting_of g.T.NumberKind.sum g.T.NumberKind.product l.self.coefficients.now l.self.layout.arrays.now d) l.elements l.at) (get_or l.self.coefficients.now l.self.statement.now.base d) (take l.term-index l.reads)
