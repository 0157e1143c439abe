use Rattle.std.proofs.Common.{◌≡◌, vec_items}
use Rattle.nest.specs.Views.{said_all}
use Rattle.sequential.specs.Run.{setting_of, buffers_of, after_sweeps}
use Rattle.sequential.proofs.run.sequential.Given as goal

abbrev pub invariant-loop : goal.invariant-loop
invariant-loop g l =
    (d : g.row.T.Denot)
    → buffers_of l.arrays l.held ≡ after_sweeps (setting_of g.T.NumberKind.sum g.T.NumberKind.product l.coefficients (vec_items l.nest.arrays) d) (said_all l.nest.statements) l.counter (buffers_of l.initial.arrays l.initial.held)
