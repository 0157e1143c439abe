-- The room that a statement wants, from its table of letters by pair. Assumes nothing.
use Rattle.std.specs.Prelude.{ℕ, List, map}
use Rattle.std.specs.List.{range_with_len, flat_map}
use Rattle.nest.specs.declared.terms.Mode.{Mode}
use Rattle.compiler.specs.LetterCounts.{count_at}
use Rattle.compiler.specs.Totals.{room_for, greatest}

-- the room for the letters from board p to board q, and to each board
abbrev pub room_of : Mode → List (List ℕ) → ℕ → ℕ → ℕ
room_of mode counts p q = room_for mode (count_at counts p q)

abbrev pub rooms_from : Mode → ℕ → List (List ℕ) → ℕ → List ℕ
rooms_from mode boards counts p = map (room_of mode counts p) (range_with_len 0 boards)

-- the room for the pair that wants most
abbrev pub greatest_room : Mode → ℕ → List (List ℕ) → ℕ
greatest_room mode boards counts = greatest (flat_map (rooms_from mode boards counts) (range_with_len 0 boards))
