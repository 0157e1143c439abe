use Rattle.std.proofs.Common.{◌≡◌, length, vec_items, Ok}
use Rattle.std.specs.List.{FoldsTo}
use Rattle.sheet.specs.Repeated.{Reads}
use Rattle.sheet.proofs.times.times.Given as goal

abbrev pub invariant-loop : goal.invariant-loop
invariant-loop g l = (length (vec_items l.values) ≡ l.counter) × FoldsTo (λ p v q. Reads g.F.Fn l.one p (Ok v) q) l.initial.cursor (vec_items l.values) l.cursor
