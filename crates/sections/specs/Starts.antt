-- A table of where each board's part of each array begins in the section buffer.
use Rattle.std.specs.Prelude.{◌≡◌, ℕ, ◌+◌, ◌*◌, List, slice_index}
use Rattle.sections.specs.Sections.{Deals, part_at}

-- the part of array t on board p begins as the table says at 4 × p + t
abbrev pub Begins : ℕ → Deals → List ℕ → ℕ → ℕ → Type 0
Begins q deals starts p t = slice_index starts (p * 4 + t) ≡ part_at q deals p t
