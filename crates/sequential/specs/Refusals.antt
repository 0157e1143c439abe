-- When a run is refused, and by which number. Assumes nothing.
use Rattle.std.specs.Prelude.{ℕ, Bool, ◌&&◌, ◌==◌}
use Rattle.sequential.specs.declared.refusal.RunRefusal.{RunRefusal}
use Rattle.sequential.specs.declared.refusal.RunRefusal.TheVariants.{WrongLength}

-- both buffers have the length of all arrays together, and there are eight coefficients
abbrev pub lengths_fit : ℕ → ℕ → ℕ → ℕ → Bool
lengths_fit total elements held coefficients = elements == total && held == total && coefficients == 8

-- the number of a refusal
abbrev pub refusal_number : RunRefusal → ℕ
refusal_number WrongLength = 8
