-- What the code counts at the front of a text. Assumes nothing.
use Rattle.std.proofs.Common.{◌≡◌, ℕ, zero, suc, ◌+◌, cond, eqb, List, [], ◌∷◌, take, zip, refl, ap, ◌∙◌, arith}
use Rattle.std.specs.List.{prefix_len}
use Rattle.tokens.specs.Extents.{digit, digits, shared}

one_more : (n : ℕ) → 1 + n ≡ suc n
one_more n = omega arith

-- how many bytes of a word a text begins with
pub shared_zip : (w s : List ℕ) → prefix_len (λ p. eqb p.0 p.1) (zip w s) ≡ shared w s
shared_zip [] s = refl
shared_zip (a ∷ w) [] = refl
shared_zip (a ∷ w) (b ∷ s) = ap (λ n. cond (eqb a b) n 0) (one_more _ ∙ ap suc (shared_zip w s))

-- how many digits a text begins with, so many at the most
pub digits_taken : (most : ℕ) (s : List ℕ) → prefix_len digit (take most s) ≡ digits most s
digits_taken zero s = refl
digits_taken (suc most) [] = refl
digits_taken (suc most) (b ∷ s) = ap (λ n. cond (digit b) n 0) (one_more _ ∙ ap suc (digits_taken most s))
