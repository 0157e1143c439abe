use Rattle.std.proofs.Common.{◌≡◌, ◌*◌, ◌≤◌, take}
use Rattle.compiler.specs.Seats.{statements_of}
use Rattle.compiler.specs.StepCounts.{step_counts}
use Rattle.compiler.proofs.view.BoardView.steps.Given as goal

abbrev pub invariant-loop-order : goal.invariant-loop-order
invariant-loop-order l = (l.steps ≡ step_counts (statements_of l.self) (take l.order-index l.orders)) × (l.steps ≤ l.order-index * 10890)
