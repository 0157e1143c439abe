-- The closed forms of runs: k positions to each of p boards in turn.
use Rattle.std.specs.Prelude.{◌≡◌, ℕ, suc, ◌+◌, ◌-◌, ◌*◌, ◌/◌, ◌%◌, ◌<◌, ◌≤◌, min, cond, ◌==◌}
use Rattle.std.proofs.Common.{sym, ap, ◌∙◌, ⊎_elim, mod-lt, mod-eq_of_lt, div-add-mod', zero-mul, suc-mul, arith}
use Rattle.std.proofs.Math.Nat.{div-eq_of_lt}
use Rattle.std.proofs.Math.Arith.{digits_div, digits_mod, mod-mul}
use Rattle.std.proofs.lemmas.Nat.{mul-le}
use Rattle.std.proofs.lemmas.Bool.{cases_lt}
use Rattle.std.proofs.lemmas.Bool.Decides.{nat_tests}

-- How many of the first m positions board b owns: k of each whole round, and its part of the round begun.
abbrev pub held : ℕ → ℕ → ℕ → ℕ → ℕ
held k p b m = m / (p * k) * k + min k (m % (p * k) - b * k)

-- How many positions lie before that of board b at rank r: whole rounds, the runs of earlier boards, an offset.
abbrev pub before : ℕ → ℕ → ℕ → ℕ → ℕ
before k p b r = r / k * (p * k) + (b * k + r % k)

-- A later board's run begins after an earlier one's ends.
pub run_after : (a b k : ℕ) → a < b → a * k + k ≤ b * k
run_after a b k h = let l = mul-le (suc a) k b k h (omega arith) in omega (arith, suc-mul a k)

-- One position more in the round begun, at offset j of the run of board o: it is board b's if b is o.
part_next : (k o b j : ℕ) → j < k → min k (o * k + j + 1 - b * k) ≡ min k (o * k + j - b * k) + cond (o == b) 1 0
part_next k o b j h =
    let earlier = run_after o b k in
    let later = run_after b o k in
    grind (arith, nat_tests)

-- The last position of a round: with it board b has its whole run of that round.
part_last : (k p o b j : ℕ) → j < k → b < p → o < p → o * k + j + 1 ≡ p * k → k ≡ min k (o * k + j - b * k) + cond (o == b) 1 0
part_last k p o b j h hb ho e =
    let earlier = run_after o b k in
    let later = run_after b o k in
    let inside = run_after b p k hb in
    grind (arith, nat_tests)

-- One position more, inside a round and at its end.
pub div_next : (w m : ℕ) → m % w + 1 < w → ((m + 1) / w ≡ m / w) × ((m + 1) % w ≡ m % w + 1)
div_next w m h =
    let e : m / w * w + (m % w + 1) ≡ m + 1 = omega (arith, div-add-mod' m w) in
    (ap (λ n. n / w) (sym e) ∙ digits_div (m / w) h, ap (λ n. n % w) (sym e) ∙ digits_mod (m / w) h)

pub div_last : (w m : ℕ) → 0 < w → m % w + 1 ≡ w → ((m + 1) / w ≡ suc (m / w)) × ((m + 1) % w ≡ 0)
div_last w m h l =
    let e : suc (m / w) * w + 0 ≡ m + 1 = omega (arith, div-add-mod' m w, suc-mul (m / w) w) in
    (ap (λ n. n / w) (sym e) ∙ digits_div (suc (m / w)) h, ap (λ n. n % w) (sym e) ∙ digits_mod (suc (m / w)) h)

module _ (k p : ℕ) (some-width : 0 < k) (some-boards : 0 < p) where
  some_round : 0 < p * k
  some_round = omega (arith, run_after 0 p k some-boards)

  -- Within a round, a place is a run and an offset in the run.
  within_round : (m : ℕ) → m % (p * k) ≡ (m / k % p) * k + m % k
  within_round m = mod-mul m some-boards some-width

  pub held_start : (b : ℕ) → held k p b 0 ≡ 0
  held_start b = rw (div-eq_of_lt some_round, mod-eq_of_lt some_round) (omega (arith, zero-mul k))

  pub held_next : (b m : ℕ) → b < p → held k p b (m + 1) ≡ held k p b m + cond (m / k % p == b) 1 0
  held_next b m h = ⊎_elim inside ends (cases_lt (m % (p * k) + 1) (p * k))
    where
      o : ℕ
      o = m / k % p

      j : ℕ
      j = m % k

      w : ℕ
      w = p * k

      inside : m % w + 1 < w → held k p b (m + 1) ≡ held k p b m + cond (o == b) 1 0
      inside l =
          let d = div_next w m l in
          let t = part_next k o b j (mod-lt m some-width) in
          rw (d.0, d.1, within_round m) (omega arith)

      ends : w ≤ m % w + 1 → held k p b (m + 1) ≡ held k p b m + cond (o == b) 1 0
      ends l =
          let whole : m % w + 1 ≡ w = omega (arith, mod-lt m some_round) in
          let d = div_last w m some_round whole in
          let last : o * k + j + 1 ≡ w = omega (arith, within_round m) in
          let t = part_last k p o b j (mod-lt m some-width) h (mod-lt (m / k) some-boards) last in
          rw (d.0, d.1, within_round m) (omega (arith, suc-mul (m / w) k))

  -- The rank of the position after m others: whole rounds, and the offset in the run.
  pub rank_closed : (m : ℕ) → held k p (m / k % p) m ≡ m / (p * k) * k + m % k
  rank_closed m = rw (within_round m) (omega (arith, mod-lt m some-width))

  -- What stands before the position of board b at rank r makes that position b's, with r of b's below it.
  pub before_is : (b r : ℕ) → b < p → (before k p b r / k % p ≡ b) × (held k p b (before k p b r) ≡ r)
  before_is b r h =
      let m : ℕ = before k p b r in
      let j : ℕ = r % k in
      let short : j < k = mod-lt r some-width in
      let inside : b * k + j < p * k = omega (arith, run_after b p k h) in
      let q : m / (p * k) ≡ r / k = digits_div (r / k) inside in
      let s : m % (p * k) ≡ b * k + j = digits_mod (r / k) inside in
      let two : (m / k % p) * k + m % k ≡ b * k + j = sym (within_round m) ∙ s in
      let o : m / k % p ≡ b = sym (digits_div (m / k % p) (mod-lt m some-width)) ∙ ap (λ n. n / k) two ∙ digits_div b short in
      (o, rw (q, s) (omega (arith, div-add-mod' r k)))
