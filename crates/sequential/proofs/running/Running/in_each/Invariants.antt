use Rattle.std.proofs.Common.{◌≡◌, fold}
use Rattle.nest.specs.Views.{said}
use Rattle.sequential.specs.declared.iteration.Iteration.{Iteration}
use Rattle.sequential.specs.Run.{Buffers, buffers_of}
use Rattle.sequential.specs.Ready.{StepsBy}
use Rattle.sequential.proofs.Turns.{row_before, rows_before}
use Rattle.sequential.proofs.running.Running.in_each.Given as goal

abbrev pub invariant-loop-j : goal.invariant-loop-j
invariant-loop-j g l =
    (f : Buffers g.row.T.Denot → Iteration → Buffers g.row.T.Denot) → StepsBy l.self.layout.arrays.now (said l.self.statement.now) (goal.F-post g l.step) f
    → buffers_of l.elements l.held ≡ fold f (buffers_of l.initial.elements l.initial.held) (row_before l.i l.self.statement.now.j l.j)

abbrev pub invariant-loop-i : goal.invariant-loop-i
invariant-loop-i g l =
    (f : Buffers g.row.T.Denot → Iteration → Buffers g.row.T.Denot) → StepsBy l.self.layout.arrays.now (said l.self.statement.now) (goal.F-post g l.step) f
    → buffers_of l.elements l.held ≡ fold f (buffers_of l.initial.elements l.initial.held) (rows_before l.self.statement.now.i l.self.statement.now.j l.i)
