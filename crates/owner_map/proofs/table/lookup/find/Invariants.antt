use Rattle.std.proofs.Common.{◌≡◌, ◌≤◌, length, take}
use Rattle.owner_map.specs.Meaning.{tally}
use Rattle.owner_map.proofs.table.lookup.find.Given as goal

abbrev pub invariant-loop-i : goal.invariant-loop-i
invariant-loop-i l = (l.i ≤ length l.row) × (l.seen ≤ l.rank) × (l.seen ≤ l.i) × (l.seen ≡ tally l.board (take l.i l.row))
