use Rattle.std.proofs.Common.{◌≡◌, ◌≤◌, drop}
use Rattle.tokens.specs.Values.{magnitude, magnitude_from}
use Rattle.tokens.proofs.value.written_number.Given as goal

abbrev pub invariant-loop-b : goal.invariant-loop-b
invariant-loop-b l = (l.value ≤ 10000) × (magnitude_from l.value (drop l.b-index l.text) ≡ magnitude l.text)
