-- A sum that takes its term from a letter. Assumes nothing.
use Rattle.post.specs.Mail.{Answer, joined, full, letter, none, waits, refused}

-- The letter v as the value plus the coefficient times v; any other answer as it is.
abbrev pub plus_term : {V : Type 0} → (V → V → V) → (V → V → V) → V → V → Answer V → Answer V
plus_term sum product coefficient value joined = joined
plus_term sum product coefficient value full = full
plus_term sum product coefficient value (letter v) = letter (sum value (product coefficient v))
plus_term sum product coefficient value none = none
plus_term sum product coefficient value (waits n) = waits n
plus_term sum product coefficient value (refused n) = refused n
