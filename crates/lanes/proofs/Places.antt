-- Pairs of boards numbered row by row, and the lanes of a slice. Assumes nothing.
use Rattle.std.proofs.Common.{◌≡◌, ℕ, ◌+◌, ◌*◌, ◌/◌, ◌%◌, ◌<◌, ◌≤◌, ◌≢◌, ◌⊎◌, List, ◌++◌, length, take, drop, sym, ap, ◌∙◌, inl, inr, mul-le-mul_right, add-mul, arith}
use lib.Arith.{digits_div, digits_mod}
use Rattle.std.proofs.lemmas.List.{take_at, drop_at, drop-take, length-take-le}
use Rattle.std.proofs.lemmas.Slice.{take-put_mid_below, drop-put_mid}
use Rattle.std.proofs.lemmas.Bool.{cases_order}
use Rattle.lanes.specs.Lanes.{place, lane}

-- two pairs with one place are one pair
pub same_sender : (n p q s r : ℕ) → q < n → r < n → place n s r ≡ place n p q → s ≡ p
same_sender n p q s r h k e = sym (digits_div s k) ∙ ap (λ x. x / n) e ∙ digits_div p h

pub same_receiver : (n p q s r : ℕ) → q < n → r < n → place n s r ≡ place n p q → r ≡ q
same_receiver n p q s r h k e = sym (digits_mod s k) ∙ ap (λ x. x % n) e ∙ digits_mod p h

-- the lanes of places j and k of m do not meet
pub lane_after : (d j k : ℕ) → j < k → j * d + d ≤ k * d
lane_after d j k h = omega (arith, mul-le-mul_right d h, add-mul j 1 d)

-- other letters in the lane of pair k change that lane, and no other
module _ {V : Type 0} (d k start deep : ℕ) (letters written : List V) (begins : start ≡ k * d) (as-deep : deep ≡ d) (room : k * d + d ≤ length letters) (long : length written ≡ d) where
  abbrev changed : List V
  changed = take start letters ++ (written ++ drop deep (drop start letters))

  pub lane_written : lane d changed k ≡ written
  lane_written = ap (take d) (drop_at (take start letters) _ (k * d) (length-take-le start letters (omega arith) ∙ begins)) ∙ take_at written _ d long

  pub lane_other : (j : ℕ) → j ≢ k → lane d changed j ≡ lane d letters j
  lane_other j ne = go (cases_order j k)
    where
      go : (j ≡ k) ⊎ ((j < k) ⊎ (k < j)) → lane d changed j ≡ lane d letters j
      go (inl e) = absurd (ne e)
      go (inr (inl l)) =
          sym (drop-take (j * d) d changed)
          ∙ ap (drop (j * d)) (take-put_mid_below start deep letters written (j * d + d) (omega (arith, lane_after d j k l)) (omega arith))
          ∙ drop-take (j * d) d letters
      go (inr (inr l)) = ap (take d) (drop-put_mid start deep letters written (j * d) (omega (arith, lane_after d k j l)) (omega arith) (omega arith))
