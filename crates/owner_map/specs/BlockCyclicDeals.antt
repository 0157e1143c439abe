-- The deal in runs of k over p boards answers by the closed forms.
use Rattle.std.specs.Prelude.{◌≡◌, ℕ, ◌+◌, ◌-◌, ◌*◌, ◌/◌, ◌%◌, ◌<◌, ◌≤◌, cond, Some, None, ◌==◌}
use Rattle.std.proofs.Common.{ap, ◌∙◌, mod-lt, arith}
use Rattle.owner_map.specs.declared.makes.Make.TheVariants.{CyclicBy}
use Rattle.owner_map.specs.Meaning.{Sound, extent, place, position, below}
use Rattle.owner_map.specs.Rules.{deal_of}
use Rattle.owner_map.specs.ClosedForms.{held, before, held_start, held_next, rank_closed, before_is}
use Rattle.owner_map.specs.RuledDeals.{extent_dealt, sound_dealt, below_dealt, place_dealt, position_dealt, none_dealt}

-- The owner of position x.
abbrev run_owner : ℕ → ℕ → ℕ → ℕ
run_owner k p x = (x - 1) / k % p

pub extent_runs : (k p n : ℕ) → extent (deal_of (CyclicBy k) p n) ≡ n
extent_runs k p n = extent_dealt p n (run_owner k p)

module _ (k p n : ℕ) (some-width : 1 ≤ k) (some-boards : 1 ≤ p) where
  start : (b : ℕ) → b < p → held k p b 0 ≡ 0
  start b board = held_start k p some-width some-boards b

  next : (b m : ℕ) → b < p → held k p b (m + 1) ≡ held k p b m + cond (run_owner k p (m + 1) == b) 1 0
  next b m board = let e : m + 1 - 1 ≡ m = omega arith in rw e (held_next k p some-width some-boards b m board)

  pub sound_runs : p ≤ 8 → 1 ≤ n → n ≤ 32 → Sound (deal_of (CyclicBy k) p n)
  sound_runs few some few-positions =
      sound_dealt p n (run_owner k p) some-boards few some few-positions (λ x _ _. mod-lt ((x - 1) / k) some-boards)

  pub below_runs : (b bound : ℕ) → b < p → bound ≤ n + 1 → below (deal_of (CyclicBy k) p n) b bound ≡ held k p b (bound - 1)
  below_runs = below_dealt p n (run_owner k p) (held k p) start next

  pub place_runs : (x : ℕ) → 1 ≤ x → x ≤ n → place (deal_of (CyclicBy k) p n) x ≡ ((x - 1) / k % p, (x - 1) / (p * k) * k + (x - 1) % k)
  place_runs x low high =
      place_dealt p n (run_owner k p) (held k p) start next x low high (mod-lt ((x - 1) / k) some-boards) ∙ ap (λ r. (run_owner k p x, r)) (rank_closed k p some-width some-boards (x - 1))

  pub position_runs : (b r : ℕ) → b < p → before k p b r < n → position (deal_of (CyclicBy k) p n) b r ≡ Some (before k p b r + 1)
  position_runs b r board within =
      let is = before_is k p some-width some-boards b r board in
      let e : before k p b r + 1 - 1 ≡ before k p b r = omega arith in
      position_dealt p n (run_owner k p) (held k p) start next b r (before k p b r) board within (ap (λ m. m / k % p) e ∙ is.0) is.1

  pub none_runs : (b r : ℕ) → b < p → n ≤ before k p b r → position (deal_of (CyclicBy k) p n) b r ≡ None
  none_runs b r board past =
      none_dealt p n (run_owner k p) (held k p) start next b r (before k p b r) board past (before_is k p some-width some-boards b r board).1
