use Rattle.std.proofs.Common.{◌≡◌, ℕ, ◌+◌, ◌-◌, ◌*◌, fold}
use Rattle.sequential.proofs.Turns.{row_before, rows_before}
use Rattle.compiler.specs.LetterCounts.{noting, AtMost}
use Rattle.compiler.proofs.letters.note_read.Given as goal

abbrev pub invariant-loop-j : goal.invariant-loop-j
invariant-loop-j l =
    (l.count ≡ fold (noting l.source l.target) l.initial.count (row_before l.i l.statement.j l.j))
    × ((n : ℕ) → AtMost n l.initial.count → AtMost (n + (l.j - l.statement.j.low)) l.count)

abbrev pub invariant-loop-i : goal.invariant-loop-i
invariant-loop-i l =
    (l.count ≡ fold (noting l.source l.target) l.initial.count (rows_before l.statement.i l.statement.j l.i))
    × ((n : ℕ) → AtMost n l.initial.count → AtMost (n + 32 * (l.i - l.statement.i.low)) l.count)
