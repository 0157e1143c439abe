-- What a slot that comes and a slot that goes mean for the rows of a belt. Assumes nothing.
use Rattle.std.proofs.Common.{◌≡◌, ℕ, suc, ◌+◌, ◌-◌, ◌<◌, ◌≤◌, true, false, ◌≢◌, List, [], ◌∷◌, ◌++◌, length, get_or, take, drop, set, Some, sym, refl, ap, ◌∙◌, subst, ap₂, Ok, arith, length-append}
use Rattle.std.proofs.lemmas.List.{append-nil, take-append-drop, take_more_set, drop_more, nil_from_length, length-take-le, get_or-take, length-set}
use Rattle.std.proofs.lemmas.Bool.Decides.{nat_tests}
use Rattle.std.proofs.lemmas.Grind.{common_steps}
use Rattle.std.specs.List.{remove}
use Rattle.belt.specs.declared.belt.Belt.{Belt}
use Rattle.belt.specs.declared.slots.Slot.{Slot}
use Rattle.belt.specs.Belt.{for_pair, letters_for, Kept, FirstOf, belt_mail}
use Rattle.post.specs.Answers.{service}
use Rattle.post.specs.Mail.{Mail, letter, oldest, after_put, take_answer, after_take}
use Rattle.post.proofs.Mails.{one_row}
use Rattle.post.proofs.Steps.{admitted, put_joins, take_oldest, take_drops}
use Rattle.belt.proofs.Lines.{letters_append, letters_mine, letters_other}
use Rattle.belt.proofs.Crowds.{some_room, own_pair, one_more}

module _ {V : Type 0} where
  -- a slot of another pair
  not_mine : (p q s r : ℕ) (x : Slot V) → for_pair p q x ≡ true → (s ≡ p → r ≡ q → ⊥) → for_pair s r x ≡ false
  not_mine p q s r x mine apart = grind (arith, common_steps, nat_tests)

  -- a slot of the pair p, q joins the end
  module _ (p q : ℕ) (x : Slot V) (mine : for_pair p q x ≡ true) (slots : List (Slot V)) where
    pub joined_mine : letters_for p q (slots ++ (x ∷ [])) ≡ letters_for p q slots ++ (x.letter ∷ [])
    joined_mine = letters_append p q slots (x ∷ []) ∙ ap (λ l. letters_for p q slots ++ l) (letters_mine p q x [] mine)

    pub joined_other : (s r : ℕ) → (s ≡ p → r ≡ q → ⊥) → letters_for s r (slots ++ (x ∷ [])) ≡ letters_for s r slots
    joined_other s r apart =
        letters_append s r slots (x ∷ [])
        ∙ ap (λ l. letters_for s r slots ++ l) (letters_other s r x [] (not_mine p q s r x mine apart))
        ∙ append-nil (letters_for s r slots)

    pub kept_joined : (n d : ℕ) → Kept n d slots → p < n → q < n → length (letters_for p q slots) < d → Kept n d (slots ++ (x ∷ []))
    kept_joined n d kept h k less s r =
        let more : length (letters_for s r (slots ++ (x ∷ []))) ≡ length (letters_for s r slots) + length (letters_for s r (x ∷ [])) = ap length (letters_append s r slots (x ∷ [])) ∙ length-append (letters_for s r slots) (letters_for s r (x ∷ [])) in
        let old = kept s r in
        grind (arith, common_steps, nat_tests, one_more s r x [])

  -- the first slot of the pair p, q goes
  module _ (p q i : ℕ) (x : Slot V) (slots : List (Slot V)) (first : FirstOf p q slots (Some i)) (read : x ≡ get_or slots i x) where
    mine : for_pair p q x ≡ true
    mine = ap (for_pair p q) read ∙ first.2 x

    split : (s r : ℕ) → letters_for s r slots ≡ letters_for s r (take i slots) ++ letters_for s r (x ∷ drop (suc i) slots)
    split s r =
        let up : i + 1 ≡ suc i = omega arith in
        let rest : drop i slots ≡ x ∷ drop (suc i) slots = drop_more slots i x first.0 ∙ ap₂ (λ y n. y ∷ drop n slots) (sym read) up in
        ap (letters_for s r) (sym (take-append-drop i slots) ∙ ap (λ l. take i slots ++ l) rest)
        ∙ letters_append s r (take i slots) (x ∷ drop (suc i) slots)

    pub gone_mine : letters_for p q slots ≡ x.letter ∷ letters_for p q (remove slots i)
    gone_mine =
        let none = nil_from_length (letters_for p q (take i slots)) first.1 in
        split p q
        ∙ ap₂ (λ a b. a ++ b) none (letters_mine p q x (drop (suc i) slots) mine)
        ∙ ap (λ l. x.letter ∷ l) (sym (letters_append p q (take i slots) (drop (suc i) slots) ∙ ap (λ l. l ++ letters_for p q (drop (suc i) slots)) none))

    pub gone_other : (s r : ℕ) → (s ≡ p → r ≡ q → ⊥) → letters_for s r slots ≡ letters_for s r (remove slots i)
    gone_other s r apart =
        split s r
        ∙ ap (λ l. letters_for s r (take i slots) ++ l) (letters_other s r x (drop (suc i) slots) (not_mine p q s r x mine apart))
        ∙ sym (letters_append s r (take i slots) (drop (suc i) slots))

    pub kept_gone : (n d : ℕ) → Kept n d slots → Kept n d (remove slots i)
    kept_gone n d kept s r =
        let whole = ap length (split s r) ∙ length-append (letters_for s r (take i slots)) (letters_for s r (x ∷ drop (suc i) slots)) in
        let rest = ap length (letters_append s r (take i slots) (drop (suc i) slots)) ∙ length-append (letters_for s r (take i slots)) (letters_for s r (drop (suc i) slots)) in
        let fewer : length (letters_for s r (remove slots i)) ≤ length (letters_for s r slots) = omega (arith, whole, rest, one_more s r x (drop (suc i) slots)) in
        let old = kept s r in
        (omega (arith, fewer), λ l. omega (arith, fewer, old.1 l), λ l. omega (arith, fewer, old.2 l))

  -- a belt and a pair
  module _ (b : Belt V) (p q : ℕ) where
    abbrev slots : List (Slot V)
    slots = b.slots.now

    abbrev held : List (Slot V)
    held = take b.used slots

    abbrev mail : Mail V
    mail = belt_mail b.boards b.depth b.used slots

    -- the first letter of the pair goes
    module _ (i : ℕ) (x : Slot V) (moved : List (Slot V)) (first : FirstOf p q held (Some i)) (read : x ≡ get_or slots i x) (closed : take (b.used - 1) moved ≡ remove held i) where
      i_below : i < b.used
      i_below = omega (arith, first.0, length-take-le b.used slots b.held)

      seen : x ≡ get_or held i x
      seen = read ∙ sym (get_or-take b.used slots i x i_below)

      row_split : mail.row p q ≡ x.letter ∷ letters_for p q (take (b.used - 1) moved)
      row_split = gone_mine p q i x held first seen ∙ ap (λ l. x.letter ∷ letters_for p q l) (sym closed)

      pub gap_kept : Kept b.boards b.depth (take (b.used - 1) moved)
      gap_kept = subst (Kept b.boards b.depth) (sym closed) (kept_gone p q i x held first seen b.boards b.depth b.kept)

    -- the belt does not refuse the pair
    module _ (ok : Ok tt ≡ service b.boards p q) where
      h : p < b.boards
      h = (admitted b.boards p q tt ok).0

      k : q < b.boards
      k = (admitted b.boards p q tt ok).1

      -- the letter v comes
      module _ (v : V) (free : length (letters_for p q held) ≢ b.depth) where
        abbrev new : Slot V
        new = record { pair = record { from = p; to = q }; letter = v }

        below : length (letters_for p q held) < b.depth
        below = omega (arith, (b.kept p q).0)

        pub slot_free : b.used < length slots
        slot_free = omega (arith, some_room b.boards b.depth p q held b.kept h k below, length-take-le b.used slots b.held, b.room, b.held)

        pub slot_held : b.used + 1 ≤ length (set slots b.used new)
        slot_held = omega (arith, slot_free, length-set slots b.used new)

        pub slot_kept : Kept b.boards b.depth (take (b.used + 1) (set slots b.used new))
        slot_kept = subst (Kept b.boards b.depth) (sym (take_more_set slots b.used new slot_free)) (kept_joined p q new (own_pair new) held b.boards b.depth b.kept h k below)

        pub belt_put : belt_mail b.boards b.depth (b.used + 1) (set slots b.used new) ≡ after_put mail p q v
        belt_put =
            let more = take_more_set slots b.used new slot_free in
            one_row mail (belt_mail b.boards b.depth (b.used + 1) (set slots b.used new)) p q (mail.row p q ++ (v ∷ [])) refl refl
            (ap (letters_for p q) more ∙ joined_mine p q new (own_pair new) held)
            (λ s r apart. ap (letters_for s r) more ∙ joined_other p q new (own_pair new) held s r apart)
            ∙ put_joins mail p q h k v free

      -- the first letter of the pair goes
      module _ (i : ℕ) (x : Slot V) (moved : List (Slot V)) (first : FirstOf p q held (Some i)) (read : x ≡ get_or slots i x) (closed : take (b.used - 1) moved ≡ remove held i) where
        pub belt_oldest : letter (get_or slots i x).letter ≡ take_answer mail p q
        belt_oldest = ap (λ y. letter y.letter) (sym read) ∙ sym (ap oldest (row_split i x moved first read closed)) ∙ take_oldest mail p q h k

        pub belt_take : belt_mail b.boards b.depth (b.used - 1) moved ≡ after_take mail p q
        belt_take =
            one_row mail (belt_mail b.boards b.depth (b.used - 1) moved) p q (drop 1 (mail.row p q)) refl refl
            (sym (ap (drop 1) (row_split i x moved first read closed)))
            (λ s r apart. ap (letters_for s r) closed ∙ sym (gone_other p q i x held first (seen i x moved first read closed) s r apart))
            ∙ take_drops mail p q h k
