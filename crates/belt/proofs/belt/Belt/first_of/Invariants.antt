use Rattle.std.proofs.Common.{◌≡◌, ◌-◌, ◌≤◌, length, take}
use Rattle.belt.specs.Belt.{letters_for}
use Rattle.belt.proofs.belt.Belt.first_of.Given as goal

abbrev pub invariant-loop-pair : goal.invariant-loop-pair
invariant-loop-pair g l = (l.k ≤ length l.slots) × (length (letters_for l.pair.from l.pair.to (take l.k l.slots)) ≡ 0)

abbrev pub decreases-loop-pair : goal.decreases-loop-pair
decreases-loop-pair g l = length l.slots - l.k
