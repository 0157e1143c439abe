-- One digit more of a number. Assumes nothing.
use Rattle.std.proofs.Common.{◌≡◌, ℕ, ◌+◌, ◌-◌, ◌*◌, ◌<◌, ◌≤◌, min, List, length, get_or, drop, sym, ap, ◌∙◌, arith}
use Rattle.std.proofs.lemmas.List.{at_drop_more, at_drop_all}
use Rattle.std.proofs.lemmas.Bool.{cond_both}
use Rattle.tokens.specs.Extents.{digit}
use Rattle.tokens.specs.Values.{written, magnitude_from, magnitude}

-- the number stays at or below the cap
pub written_capped : (v b : ℕ) → v ≤ 10000 → written v b ≤ 10000
written_capped v b h = cond_both (digit b) (min 10000 (10 * v + (b - 48))) v (λ n. n ≤ 10000) (λ _. omega arith) (λ _. h)

pub magnitude_more : (s : List ℕ) (i v w : ℕ) → i < length s → w ≡ written v (get_or s i 0) → magnitude_from v (drop i s) ≡ magnitude s → magnitude_from w (drop (i + 1) s) ≡ magnitude s
magnitude_more s i v w h e so = ap (λ n. magnitude_from n (drop (i + 1) s)) e ∙ sym (at_drop_more (magnitude_from v) s i 0 h) ∙ so

pub magnitude_all : (s : List ℕ) (i v : ℕ) → length s ≤ i → magnitude_from v (drop i s) ≡ magnitude s → v ≡ magnitude s
magnitude_all s i v h so = sym (at_drop_all (magnitude_from v) s i h) ∙ so
