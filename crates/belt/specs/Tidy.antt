-- The rows of a belt are orderly: proved here, since its implementation of the post names the proof. Assumes nothing.
use Rattle.std.specs.Prelude.{◌≡◌, ℕ, false, ◌⊎◌, List, length, take, nat_lt}
use Rattle.std.proofs.Common.{inl, inr, arith}
use Rattle.std.proofs.lemmas.Bool.{and_cases, ltb-false}
use Rattle.std.proofs.lemmas.List.{nil_from_length}
use Rattle.post.specs.Mail.{Orderly}
use Rattle.belt.specs.declared.slots.Slot.{Slot}
use Rattle.belt.specs.Belt.{Kept, letters_for, belt_mail}

pub belt_orderly : {V : Type 0} (n d used : ℕ) (slots : List (Slot V)) → Kept n d (take used slots) → Orderly (belt_mail n d used slots)
belt_orderly {V} n d used slots kept = record {
  short = λ p q. (kept p q).0;
  inside = λ p q out. nil_from_length (letters_for p q (take used slots)) (none p q (and_cases (nat_lt p n) (nat_lt q n) out));
}
  where
    none : (p q : ℕ) → (nat_lt p n ≡ false) ⊎ (nat_lt q n ≡ false) → length (letters_for p q (take used slots)) ≡ 0
    none p q (inl e) = omega (arith, (kept p q).1 (ltb-false p n e))
    none p q (inr e) = omega (arith, (kept p q).2 (ltb-false q n e))
