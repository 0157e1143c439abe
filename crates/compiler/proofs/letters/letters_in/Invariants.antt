use Rattle.std.proofs.Common.{◌*◌, take}
use Rattle.std.specs.List.{flat_map}
use Rattle.nest.specs.Views.{said}
use Rattle.compiler.specs.LetterCounts.{AtMost}
use Rattle.compiler.specs.Making.{seat_in}
use Rattle.compiler.specs.Totals.{letters_for}
use Rattle.compiler.proofs.Tallying.{Tallied}
use Rattle.compiler.proofs.letters.letters_in.Given as goal

abbrev pub invariant-loop-read : goal.invariant-loop-read
invariant-loop-read l =
    Tallied l.count (flat_map (letters_for (seat_in l.fitted 0) (said l.statement)) (take l.read-index l.reads)) × AtMost (1024 * l.read-index) l.count
