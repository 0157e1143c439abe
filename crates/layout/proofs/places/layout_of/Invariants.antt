use Rattle.std.proofs.Common.{◌≡◌, length}
use Rattle.layout.specs.Places.{start_of}
use Rattle.layout.proofs.Starts.{Begun}
use Rattle.layout.proofs.places.layout_of.Given as goal

abbrev pub invariant-loop-t : goal.invariant-loop-t
invariant-loop-t l = (length l.starts ≡ 4) × (l.total ≡ start_of l.arrays l.t) × Begun l.arrays l.starts l.t
