-- The cases of a request to boards that a list of desks holds: rows of depth 1, and each board puts to one other.
use Rattle.std.proofs.Common.{◌≡◌, ℕ, ◌<◌, ◌≤◌, List, [], length, get_or, set, Some, None, Option, sym, refl, ap, ◌∙◌, arith}
use Rattle.std.proofs.Math.ListN.{get_or-map}
use Rattle.std.proofs.Math.Seq.{map-set_same}
use Rattle.std.proofs.lemmas.List.{length-map, map-set, set-get_or}
use Rattle.std.specs.Option.{option_to_list}
use Rattle.network.specs.Network.{ends, goes_on, puts, takes, Network}
use Rattle.network.specs.Request.{joined}
use Rattle.network.specs.Fixed.{owned}
use Rattle.network.specs.Desks.{desk, owns, letters}
use Rattle.network.specs.declared.answer.Answer.{Answer}
use Rattle.network.specs.declared.answer.Answer.TheVariants.{Ran, Waiting, Ended, Refused}
use Rattle.network.specs.declared.desk.Desk.{Desk}
use Rattle.network.proofs.Kept as kept
use Rattle.network.proofs.Kept.{Way}

-- What the boards are, the one board that each puts to, what is read past the list's end, and the steps that a board has left.
pub record Line (S : Type 0) : Type 0 where
  pub network : Network ℕ S
  pub to : ℕ → ℕ
  pub idle : S
  pub weight : S → ℕ

abbrev pub way : {S : Type 0} → Line S → Way ℕ S (Option ℕ)
way line =
    record { fixed = owned line.network 1; to = line.to; letters = option_to_list; idle = line.idle; empty = None; weight = line.weight }

module _ {S : Type 0} (line : Line S) (desks : List (Desk S)) (p : ℕ) where
  abbrev pub at : ℕ → Desk S
  at q = get_or desks q (desk line.idle None)

  -- A request to board p was answered by a, and left desks'.
  abbrev pub Left : Answer → List (Desk S) → Type 0
  Left a desks' = kept.Left (way line) (owns desks) (letters desks) p a (owns desks') (letters desks')

  -- the same, under another name of the desks
  pub told : {a : Answer} {desks' desks'' : List (Desk S)} → Left a desks' → desks'' ≡ desks' → Left a desks''
  told x e = rw e x

  -- the same, by the two lists that are left
  by_lists : {a : Answer} (desks' : List (Desk S)) {owns' : List S} {letters' : List (Option ℕ)}
      → kept.Left (way line) (owns desks) (letters desks) p a owns' letters' → owns desks' ≡ owns' → letters desks' ≡ letters' → Left a desks'
  by_lists desks' x e f = kept.told (way line) (owns desks) (letters desks) p x refl e f

  own_is : get_or (owns desks) p line.idle ≡ (at p).own
  own_is = get_or-map (λ d. d.own) desks p (desk line.idle None)

  letter_is : (q : ℕ) → get_or (letters desks) q None ≡ (at q).letter
  letter_is q = get_or-map (λ d. d.letter) desks q (desk line.idle None)

  pub refused : line.network.boards ≤ p → Left Refused desks
  refused outside = kept.refused (way line) (owns desks) (letters desks) p outside

  module _ (inside : p < line.network.boards) where
    pub ended : line.network.next p (at p).own ≡ ends → Left Ended desks
    ended e = kept.ended (way line) (owns desks) (letters desks) p inside (rw own_is e)

    pub put_waits : (x y : ℕ) (t : S) → line.network.next p (at p).own ≡ puts (line.to p) x t → (at p).letter ≡ Some y → Left Waiting desks
    put_waits x y t e some =
        kept.put_waits (way line) (owns desks) (letters desks) p inside x t (rw own_is e) (rw (letter_is p, some) (omega arith))

    -- a slot that was read by taking its letter out, and held none
    pub take_waits : (q : ℕ) (go : ℕ → S) (v : Option ℕ) → line.network.next p (at p).own ≡ takes q go → p ≡ line.to q → (at q).letter ≡ None → v ≡ None
        → Left Waiting (set desks q (desk (at q).own v))
    take_waits q go v e there none left =
        let same : set desks q (desk (at q).own v) ≡ desks = ap (λ x. set desks q (desk (at q).own x)) (left ∙ sym none) ∙ set-get_or desks q (desk line.idle None) in
        told (kept.take_waits (way line) (owns desks) (letters desks) p inside q go (rw own_is e) there (ap option_to_list (letter_is q ∙ none))) same

    module _ (here : p < length desks) where
      pub ran_alone : (t : S) → line.network.next p (at p).own ≡ goes_on t → line.weight t < line.weight (at p).own
          → Left Ran (set desks p (desk t (at p).letter))
      ran_alone t e lighter =
          by_lists _ (kept.ran_alone (way line) (owns desks) (letters desks) p inside (rw length-map here) t (rw own_is e) (rw own_is lighter)) (map-set (λ d. d.own) desks p _) (map-set_same (λ d. d.letter) desks p _ (desk line.idle None) refl)

      pub put_ran : (x : ℕ) (t : S) → line.network.next p (at p).own ≡ puts (line.to p) x t → (at p).letter ≡ None → line.weight t < line.weight (at p).own
          → Left Ran (set desks p (desk t (Some x)))
      unfolding joined
      put_ran x t e none lighter =
          by_lists _ (kept.put_ran (way line) (owns desks) (letters desks) p inside (rw length-map here) x t (Some x) (rw length-map here) (rw own_is e) (rw (letter_is p, none) (omega arith)) (rw (letter_is p, none) refl) (rw own_is lighter)) (map-set (λ d. d.own) desks p _) (map-set (λ d. d.letter) desks p _)

      pub take_ran : (q : ℕ) (go : ℕ → S) (x : ℕ) (v : Option ℕ) → q < length desks → line.network.next p (at p).own ≡ takes q go → p ≡ line.to q
          → (at q).letter ≡ Some x → v ≡ None → line.weight (go x) < line.weight (at p).own
          → (let taken : List (Desk S) = set desks q (desk (at q).own v) in Left Ran (set taken p (desk (go x) (get_or taken p (desk line.idle None)).letter)))
      take_ran q go x v there e to some left lighter =
          let taken : List (Desk S) = set desks q (desk (at q).own v) in
          by_lists _ (kept.take_ran (way line) (owns desks) (letters desks) p inside (rw length-map here) q go x [] None (rw length-map there) (rw own_is e) to (ap option_to_list (letter_is q ∙ some)) refl (rw own_is lighter)) (map-set (λ d. d.own) taken p _ ∙ ap (λ l. set l p (go x)) (map-set_same (λ d. d.own) desks q _ (desk line.idle None) refl)) (map-set_same (λ d. d.letter) taken p _ (desk line.idle None) refl ∙ map-set (λ d. d.letter) desks q _ ∙ ap (set (letters desks) q) left)
