use Rattle.std.proofs.Common.{◌≡◌, map, take, fold}
use Rattle.nest.specs.Views.{said}
use Rattle.sequential.specs.Run.{setting_of, buffers_of, after_statement}
use Rattle.sequential.proofs.statements.run_sweep.Given as goal

abbrev pub invariant-loop-statement : goal.invariant-loop-statement
invariant-loop-statement g l =
    (d : g.row.T.Denot)
    → buffers_of l.elements l.held ≡ fold (after_statement (setting_of g.T.NumberKind.sum g.T.NumberKind.product l.coefficients l.layout.arrays.now d)) (buffers_of l.initial.elements l.initial.held) (map said (take l.statement-index l.statements))
