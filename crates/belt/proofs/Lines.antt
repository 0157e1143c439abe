-- The letters of a pair on a belt, one slot more or less. Assumes nothing.
use Rattle.std.proofs.Common.{◌≡◌, ℕ, true, false, List, ◌∷◌, ◌++◌, map, filter, ap, ◌∙◌}
use Rattle.std.proofs.lemmas.List.Elements.{filter-append}
use Rattle.std.proofs.lemmas.List.{map-append}
use Rattle.std.proofs.lemmas.Bool.{cond-true, cond-false}
use Rattle.belt.specs.declared.slots.Slot.{Slot}
use Rattle.belt.specs.Belt.{for_pair, letter_of, letters_for}

module _ {V : Type 0} (p q : ℕ) where
  pub letters_append : (xs ys : List (Slot V)) → letters_for p q (xs ++ ys) ≡ letters_for p q xs ++ letters_for p q ys
  letters_append xs ys = ap (map letter_of) (filter-append (for_pair p q) xs ys) ∙ map-append letter_of (filter (for_pair p q) xs) (filter (for_pair p q) ys)

  pub letters_mine : (s : Slot V) (ss : List (Slot V)) → for_pair p q s ≡ true → letters_for p q (s ∷ ss) ≡ s.letter ∷ letters_for p q ss
  letters_mine s ss e = ap (map letter_of) (cond-true (for_pair p q s) (s ∷ filter (for_pair p q) ss) (filter (for_pair p q) ss) e)

  pub letters_other : (s : Slot V) (ss : List (Slot V)) → for_pair p q s ≡ false → letters_for p q (s ∷ ss) ≡ letters_for p q ss
  letters_other s ss e = ap (map letter_of) (cond-false (for_pair p q s) (s ∷ filter (for_pair p q) ss) (filter (for_pair p q) ss) e)
