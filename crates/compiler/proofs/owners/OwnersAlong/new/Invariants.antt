use Rattle.std.proofs.Common.{◌≡◌, length}
use Rattle.compiler.proofs.OwnerLookups.{AlongTo}
use Rattle.compiler.proofs.owners.OwnersAlong.new.Given as goal

abbrev pub invariant-loop-value : goal.invariant-loop-value
invariant-loop-value g l = (length l.owners ≡ 33) × AlongTo (g.M.OwnerMap.meaning l.map) l.subscript l.initial.value l.value l.owners
