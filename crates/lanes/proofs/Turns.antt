-- What a put and a take do to the letters of a ring. Assumes nothing.
use Rattle.std.proofs.Common.{◌≡◌, ℕ, suc, ◌+◌, ◌-◌, ◌<◌, ◌≤◌, cond, ltb, ◌≢◌, ◌⊎◌, List, [], ◌∷◌, ◌++◌, length, get_or, take, drop, set, sym, ap, ◌∙◌, ap₂, inl, inr, arith, length-append, length-drop, length-take}
use lib.Seq.{take-set-lt}
use Rattle.std.proofs.lemmas.List.{take-set-le, drop-set-lt, drop-set-add, take-append-le, set-append_left, set-append_right, take_more_set, drop_more, take_more, take-take, drop_all, append_assoc, length-take-le}
use Rattle.std.proofs.lemmas.Bool.{cases_lt}
use Rattle.std.proofs.lemmas.Bool.Decides.{nat_tests}
use Rattle.lanes.specs.declared.rings.Ring.{Ring}
use Rattle.lanes.specs.Lanes.{Fits, in_ring}

-- the lane from its place `first` on, round to its start
abbrev pub turned : {V : Type 0} → ℕ → List V → List V
turned first places = drop first places ++ take first places

pub turned_length : {V : Type 0} (places : List V) (first : ℕ) → length (turned first places) ≡ length places
turned_length places first = simp (length-append, length-drop, length-take) (omega arith)

pub ring_length : {V : Type 0} (places : List V) (ring : Ring) → ring.count ≤ length places → length (in_ring ring places) ≡ ring.count
ring_length places ring h = length-take-le ring.count (turned ring.first places) (omega (arith, turned_length places ring.first))

module _ {V : Type 0} (places : List V) (first : ℕ) (inside : first ≤ length places) where
  -- the place `count` behind the first, if the lane's end is not passed, and if it is
  pub set_before_end : (count : ℕ) (v : V) → first + count < length places → turned first (set places (first + count) v) ≡ set (turned first places) count v
  set_before_end count v h =
      ap₂ (λ x y. x ++ y) (drop-set-add first places count v) (take-set-le first places (first + count) v (omega arith))
      ∙ sym (set-append_left (drop first places) (take first places) count v (simp length-drop (omega arith)))

  pub set_past_end : (count at : ℕ) (v : V) → at + length places ≡ first + count → at < first → turned first (set places at v) ≡ set (turned first places) count v
  set_past_end count at v e h =
      let over : length (drop first places) ≡ length places - first = length-drop first places in
      ap₂ (λ x y. x ++ y) (drop-set-lt first places at v h) (take-set-lt first places at v h)
      ∙ ap (λ i. drop first places ++ set (take first places) i v) (omega arith)
      ∙ sym (set-append_right (drop first places) (take first places) (length places - first) count v over (omega arith))

-- the letter at the first place is the oldest, and behind it come the letters of the ring that begins one place on
module _ {V : Type 0} (places : List V) (first : ℕ) (x : V) (inside : first < length places) where
  pub oldest_first : turned first places ≡ get_or places first x ∷ (drop (first + 1) places ++ take first places)
  oldest_first = ap (λ l. l ++ take first places) (drop_more places first x inside)

  rest_length : length (drop (first + 1) places ++ take first places) ≡ length places - 1
  rest_length = simp (length-append, length-drop, length-take) (omega arith)

  pub next_inside : (count : ℕ) → count < length places → take count (turned (first + 1) places) ≡ take count (drop (first + 1) places ++ take first places)
  next_inside count h =
      ap (λ l. take count (drop (first + 1) places ++ l)) (take_more places first x inside)
      ∙ ap (take count) (sym (append_assoc (drop (first + 1) places) (take first places) (get_or places first x ∷ [])))
      ∙ take-append-le count (drop (first + 1) places ++ take first places) (get_or places first x ∷ []) (omega (arith, rest_length))

  pub next_at_end : (count : ℕ) → first + 1 ≡ length places → count < length places → take count (turned 0 places) ≡ take count (drop (first + 1) places ++ take first places)
  next_at_end count e h =
      take-append-le count places [] (omega arith)
      ∙ sym (take-take count first places (omega arith))
      ∙ ap (λ l. take count (l ++ take first places)) (sym (drop_all (first + 1) places (omega arith)))

-- a ring in a lane that it fits
module _ {V : Type 0} (places : List V) (ring : Ring) (fits : Fits (length places) ring) where
  abbrev d : ℕ
  d = length places

  abbrev first : ℕ
  first = ring.first

  abbrev count : ℕ
  count = ring.count

  -- a letter is written `count` places behind the first, round at the lane's end
  module _ (at : ℕ) (v : V) (free : count ≢ d) (round : at ≡ cond (ltb (first + count) d) (first + count) (first + count - d)) where
    first_below : first < d
    first_below = fits.1 (omega (arith, fits.0))

    -- the lane's end is not passed, or it is
    pub round_cases : ((first + count < d) × (at ≡ first + count)) ⊎ ((at + d ≡ first + count) × (at < first))
    round_cases = go (cases_lt (first + count) d)
      where
        go : (first + count < d) ⊎ (d ≤ first + count) → ((first + count < d) × (at ≡ first + count)) ⊎ ((at + d ≡ first + count) × (at < first))
        go (inl l) =
            let e : at ≡ first + count = grind (arith, nat_tests) in
            inl (l, e)
        go (inr r) =
            let e : at + d ≡ first + count = grind (arith, nat_tests) in
            inr (e, omega (arith, fits.0))

    set_round : turned first (set places at v) ≡ set (turned first places) count v
    set_round = go round_cases
      where
        go : ((first + count < d) × (at ≡ first + count)) ⊎ ((at + d ≡ first + count) × (at < first)) → turned first (set places at v) ≡ set (turned first places) count v
        go (inl e) = ap (λ i. turned first (set places i v)) e.1 ∙ set_before_end places first (omega (arith, first_below)) count v e.0
        go (inr e) = set_past_end places first (omega (arith, first_below)) count at v e.0 e.1

    pub ring_pushed : in_ring (record { first = first; count = count + 1 }) (set places at v) ≡ in_ring ring places ++ (v ∷ [])
    ring_pushed = ap (take (count + 1)) set_round ∙ take_more_set (turned first places) count v (omega (arith, fits.0, turned_length places first))

  -- the letter at the first place is taken, and the ring begins one place on, round at the lane's end
  module _ (x : V) (next : ℕ) (some : count ≢ 0) (read : x ≡ get_or places first x) (round : next ≡ cond (ltb (first + 1) d) (first + 1) (first + 1 - d)) where
    inside : first < d
    inside = fits.1 (omega (arith, fits.0))

    abbrev rest : List V
    rest = take (count - 1) (drop (first + 1) places ++ take first places)

    ring_next : take (count - 1) (turned next places) ≡ rest
    ring_next = go (cases_lt (first + 1) d)
      where
        go : (first + 1 < d) ⊎ (d ≤ first + 1) → take (count - 1) (turned next places) ≡ rest
        go (inl l) =
            let is : next ≡ first + 1 = grind (arith, nat_tests) in
            ap (λ i. take (count - 1) (turned i places)) is ∙ next_inside places first x inside (count - 1) (omega (arith, fits.0))
        go (inr r) =
            let start : next ≡ 0 = grind (arith, nat_tests) in
            ap (λ i. take (count - 1) (turned i places)) start ∙ next_at_end places first x inside (count - 1) (omega (arith, inside)) (omega (arith, fits.0))

    pub ring_popped : in_ring ring places ≡ x ∷ in_ring (record { first = next; count = count - 1 }) places
    ring_popped =
        let more : count ≡ suc (count - 1) = omega arith in
        ap₂ take more (oldest_first places first x inside) ∙ ap₂ (λ y ys. y ∷ ys) (sym read) (sym ring_next)
