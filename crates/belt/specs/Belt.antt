-- How a belt keeps its letters: all of them in order of arrival, each with its pair. Assumes nothing.
use Rattle.std.specs.Prelude.{◌≡◌, ℕ, ◌<◌, ◌≤◌, Bool, true, ◌&&◌, List, map, length, take, Some, None, filter, Option, ◌==◌, slice_index_or}
use Rattle.belt.specs.declared.slots.Slot.{Slot}
use Rattle.post.specs.Mail.{Mail}

-- The slot holds a letter from p to q.
abbrev pub for_pair : {V : Type 0} → ℕ → ℕ → Slot V → Bool
for_pair p q s = s.pair.from == p && s.pair.to == q

abbrev pub letter_of : {V : Type 0} → Slot V → V
letter_of s = s.letter

-- The letters from p to q, in order of arrival.
abbrev pub letters_for : {V : Type 0} → ℕ → ℕ → List (Slot V) → List V
letters_for p q slots = map letter_of (filter (for_pair p q) slots)

-- No pair has more than d letters, and a pair outside n boards has none.
abbrev pub Kept : {V : Type 0} → ℕ → ℕ → List (Slot V) → Type 0
Kept n d slots = (p q : ℕ) → (length (letters_for p q slots) ≤ d) × (n ≤ p → length (letters_for p q slots) ≤ 0) × (n ≤ q → length (letters_for p q slots) ≤ 0)

-- What looking for the pair's first slot gives: none where the pair has no letter; else a place, with a slot of the
-- pair, before which there is no other.
abbrev pub FirstOf : {V : Type 0} → ℕ → ℕ → List (Slot V) → Option ℕ → Type 0
FirstOf p q slots None = length (letters_for p q slots) ≡ 0
FirstOf {V} p q slots (Some i) = (i < length slots) × (length (letters_for p q (take i slots)) ≡ 0) × ((s : Slot V) → for_pair p q (slice_index_or slots i s) ≡ true)

-- The post that a belt of n boards and depth d means, whose first `used` slots are taken.
abbrev pub belt_mail : {V : Type 0} → ℕ → ℕ → ℕ → List (Slot V) → Mail V
belt_mail n d used slots = record { boards = n; depth = d; row = λ p q. letters_for p q (take used slots) }
