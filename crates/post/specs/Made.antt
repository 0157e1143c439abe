-- The board count and the depth of a post that is made from a buffer. Assumes nothing.
use Rattle.std.specs.Prelude.{ℕ, ◌*◌, ◌/◌, min, max}

-- The count that was asked for, brought into the range 1 to 8.
abbrev pub board_count : ℕ → ℕ
board_count asked = min 8 (max 1 asked)

-- What a buffer of `size` letters has for each ordered pair of n boards, and at most 4096.
abbrev pub depth_for : ℕ → ℕ → ℕ
depth_for size n = min (size / (n * n)) 4096
