use Rattle.std.proofs.Common.{◌≡◌, ◌≤◌, length, take}
use Rattle.owner_map.specs.Meaning.{tally}
use Rattle.owner_map.proofs.table.lookup.occurrences.Given as goal

abbrev pub invariant-loop-owner : goal.invariant-loop-owner
invariant-loop-owner l = (l.owner-index ≤ length l.row) × (l.seen ≤ l.owner-index) × (l.seen ≡ tally l.board (take l.owner-index l.row))
