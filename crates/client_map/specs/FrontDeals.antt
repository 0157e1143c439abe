-- The deal with a front for board 0 answers by the closed forms.
use Rattle.std.specs.Prelude.{◌≡◌, ℕ, ◌+◌, ◌-◌, ◌*◌, ◌/◌, ◌%◌, ◌<◌, ◌≤◌, cond, Some, None, ◌==◌, nat_le}
use Rattle.std.proofs.Common.{sym, ap₂, ◌∙◌, mod-lt, div-add-mod'}
use Rattle.std.proofs.Math.Path.{ap}
use native.Mathlib.Omega.{arith}
use Rattle.std.proofs.Math.Arith.{digits_mod}
use Rattle.std.proofs.lemmas.Bool.{le-leb, lt-leb, cond-true, cond-false}
use Rattle.std.proofs.lemmas.Bool.Decides.{nat_tests}
use Rattle.owner_map.specs.Meaning.{Sound, extent, place, position, below}
use Rattle.owner_map.specs.RuledDeals.{extent_dealt, sound_dealt, below_dealt, place_dealt, position_dealt, none_dealt}
use Rattle.client_map.specs.Rule.{front_owner, front_deal}
use Rattle.client_map.specs.Counts.{front_part, held, held_start, held_next, held_front, held_behind}

pub extent_front : (p n f : ℕ) → extent (front_deal p n f) ≡ n
extent_front p n f = extent_dealt p n (front_owner p f)

-- The rule in the front, and behind it.
owner_front : (p f x : ℕ) → x ≤ f → front_owner p f x ≡ 0
owner_front p f x h = cond-true (nat_le x f) 0 ((x - 1 - f) % p) (le-leb x f h)

owner_behind : (p f x : ℕ) → f < x → front_owner p f x ≡ (x - 1 - f) % p
owner_behind p f x h = cond-false (nat_le x f) 0 ((x - 1 - f) % p) (lt-leb x f h)

module _ (p n f : ℕ) (some-boards : 1 ≤ p) where
  start : (b : ℕ) → b < p → held p f b 0 ≡ 0
  start b board = held_start p b board f

  next : (b m : ℕ) → b < p → held p f b (m + 1) ≡ held p f b m + cond (front_owner p f (m + 1) == b) 1 0
  next b m board = held_next p b board f m

  owner_is_board : (x : ℕ) → front_owner p f x < p
  owner_is_board x = let o = mod-lt (x - 1 - f) some-boards in grind (arith, nat_tests)

  pub sound_front : p ≤ 8 → 1 ≤ n → n ≤ 32 → Sound (front_deal p n f)
  sound_front few some few-positions = sound_dealt p n (front_owner p f) some-boards few some few-positions (λ x _ _. owner_is_board x)

  pub below_front : (b bound : ℕ) → b < p → bound ≤ n + 1 → below (front_deal p n f) b bound ≡ held p f b (bound - 1)
  below_front = below_dealt p n (front_owner p f) (held p f) start next

  placed : (x : ℕ) → 1 ≤ x → x ≤ n → place (front_deal p n f) x ≡ (front_owner p f x, held p f (front_owner p f x) (x - 1))
  placed x low high = place_dealt p n (front_owner p f) (held p f) start next x low high (owner_is_board x)

  pub place_front : (x : ℕ) → 1 ≤ x → x ≤ n → x ≤ f → place (front_deal p n f) x ≡ (0, x - 1)
  place_front x low high h =
      let o = owner_front p f x h in
      let r = ap (λ b. held p f b (x - 1)) o ∙ held_front p 0 some-boards f (x - 1) (omega arith) in
      placed x low high ∙ (λ i. (o i, r i))

  pub place_behind : (x : ℕ) → x ≤ n → f < x → place (front_deal p n f) x ≡ ((x - 1 - f) % p, front_part f ((x - 1 - f) % p) + (x - 1 - f) / p)
  place_behind x high h =
      let j : ℕ = x - 1 - f in
      let o = owner_behind p f x h in
      let e : x - 1 ≡ f + j / p * p + j % p = omega (arith, div-add-mod' j p) in
      let r = ap₂ (held p f) o e ∙ held_behind p (j % p) (mod-lt j some-boards) f (j / p) in
      placed x (omega arith) high ∙ (λ i. (o i, r i))

  module _ (b r : ℕ) (board : b < p) where
    pub position_front : f ≤ n → r < front_part f b → position (front_deal p n f) b r ≡ Some (r + 1)
    position_front part h =
        let inside : r < f = grind (arith, nat_tests) in
        let zero : b ≡ 0 = grind (arith, nat_tests) in
        position_dealt p n (front_owner p f) (held p f) start next b r r board (omega arith) (owner_front p f (r + 1) (omega arith) ∙ sym zero) (held_front p b board f r h)

    -- As many positions lie before that of board b at rank r, behind the front.
    before : ℕ
    before = f + (r - front_part f b) * p + b

    reached : front_part f b ≤ r → held p f b before ≡ r
    unfolding before
    reached h = held_behind p b board f (r - front_part f b) ∙ omega arith

    pub position_behind : front_part f b ≤ r → f + (r - front_part f b) * p + b < n → position (front_deal p n f) b r ≡ Some (f + (r - front_part f b) * p + b + 1)
    unfolding before
    position_behind h within =
        let e : before + 1 - 1 - f ≡ (r - front_part f b) * p + b = omega arith in
        let named : front_owner p f (before + 1) ≡ b = owner_behind p f (before + 1) (omega arith) ∙ ap (λ j. j % p) e ∙ digits_mod (r - front_part f b) board in
        position_dealt p n (front_owner p f) (held p f) start next b r before board within named (reached h)

    pub none_behind : front_part f b ≤ r → n ≤ f + (r - front_part f b) * p + b → position (front_deal p n f) b r ≡ None
    unfolding before
    none_behind h past = none_dealt p n (front_owner p f) (held p f) start next b r before board past (reached h)
