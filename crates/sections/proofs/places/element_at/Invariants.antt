use Rattle.std.proofs.Common.{◌≡◌, ◌+◌}
use Rattle.layout.specs.Places.{start_of}
use Rattle.sections.proofs.places.element_at.Given as goal

abbrev pub invariant-loop-which : goal.invariant-loop-which
invariant-loop-which l = l.left + start_of l.arrays l.which ≡ l.place
