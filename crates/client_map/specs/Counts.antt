-- The closed forms of a deal with a front of f positions for board 0.
use Rattle.std.specs.Prelude.{◌≡◌, ℕ, suc, ◌+◌, ◌-◌, ◌*◌, ◌/◌, ◌%◌, ◌<◌, ◌≤◌, min, cond, ◌==◌, nat_lt}
use Rattle.std.proofs.Common.{sym, ap, ◌∙◌, ⊎_elim, mod-lt, div-add-mod', suc-mul, arith}
use Rattle.std.proofs.Math.Nat.{div-eq_of_lt}
use Rattle.std.proofs.Math.Arith.{digits_div}
use Rattle.std.proofs.lemmas.Bool.{cases_lt, le-ltb, lt-ltb}
use Rattle.std.proofs.lemmas.Bool.Decides.{nat_tests}
use Rattle.owner_map.specs.ClosedForms.{div_next, div_last}
use Rattle.client_map.specs.Rule.{front_owner}

-- The part of the front that board b owns.
abbrev pub front_part : ℕ → ℕ → ℕ
front_part f b = cond (b == 0) f 0

-- How many of the first j positions behind the front board b owns.
abbrev pub turns : ℕ → ℕ → ℕ → ℕ
turns p b j = (j + (p - 1 - b)) / p

-- How many of the first m positions board b owns.
abbrev pub held : ℕ → ℕ → ℕ → ℕ → ℕ
held p f b m = min m (front_part f b) + turns p b (m - f)

module _ (p b : ℕ) (board : b < p) where
  -- After q whole rounds and t positions more, board b has had its turn of the round begun or has not.
  turns_at : (q t : ℕ) → t < p → turns p b (q * p + t) ≡ q + cond (nat_lt b t) 1 0
  turns_at q t h = ⊎_elim had waits (cases_lt b t)
    where
      had : b < t → turns p b (q * p + t) ≡ q + cond (nat_lt b t) 1 0
      had l =
          let e : q * p + t + (p - 1 - b) ≡ suc q * p + (t - 1 - b) = omega (arith, suc-mul q p) in
          let short : t - 1 - b < p = omega arith in
          let whole : (suc q * p + (t - 1 - b)) / p ≡ suc q = digits_div (suc q) short in
          let u = lt-ltb b t l in
          rw (e, whole, u) (omega arith)

      waits : t ≤ b → turns p b (q * p + t) ≡ q + cond (nat_lt b t) 1 0
      waits l =
          let e : q * p + t + (p - 1 - b) ≡ q * p + (t + (p - 1 - b)) = omega arith in
          let short : t + (p - 1 - b) < p = omega arith in
          let whole : (q * p + (t + (p - 1 - b))) / p ≡ q = digits_div q short in
          let u = le-ltb b t l in
          rw (e, whole, u) (omega arith)

  turns_split : (j : ℕ) → turns p b j ≡ j / p + cond (nat_lt b (j % p)) 1 0
  turns_split j = ap (turns p b) (sym (div-add-mod' j p)) ∙ turns_at (j / p) (j % p) (mod-lt j (omega arith))

  pub turns_next : (j : ℕ) → turns p b (j + 1) ≡ turns p b j + cond (j % p == b) 1 0
  turns_next j =
      let now = turns_split j in
      let later = turns_split (j + 1) in
      let rest : j % p < p = mod-lt j (omega arith) in
      let inside = div_next p j in
      let ends = div_last p j (omega arith) in
      grind (arith, nat_tests)

  -- A board waits for its own turn.
  pub turns_own : (q : ℕ) → turns p b (q * p + b) ≡ q
  turns_own q = let own = turns_at q b board in grind (arith, nat_tests)

  turns_none : turns p b 0 ≡ 0
  turns_none = let short : 0 + (p - 1 - b) < p = omega arith in div-eq_of_lt short

  pub held_start : (f : ℕ) → held p f b 0 ≡ 0
  held_start f = let e : 0 - f ≡ 0 = omega arith in rw (e, turns_none) (omega arith)

  pub held_next : (f m : ℕ) → held p f b (m + 1) ≡ held p f b m + cond (front_owner p f (m + 1) == b) 1 0
  held_next f m =
      let behind = turns_next (m - f) in
      let none = turns_none in
      let later : f ≤ m → m + 1 - f ≡ m - f + 1 = omega arith in
      let front : m < f → m + 1 - f ≡ 0 = omega arith in
      let start : m + 1 - 1 - f ≡ m - f = omega arith in
      rw start (grind (arith, nat_tests))

  -- Within its front a board owns everything.
  pub held_front : (f m : ℕ) → m < front_part f b → held p f b m ≡ m
  held_front f m h =
      let inside : m < f = grind (arith, nat_tests) in
      let e : m - f ≡ 0 = omega arith in
      rw (e, turns_none) (omega arith)

  -- Behind the front, after q whole rounds, it is board b's turn once the earlier boards have had theirs.
  pub held_behind : (f q : ℕ) → held p f b (f + q * p + b) ≡ front_part f b + q
  held_behind f q =
      let e : f + q * p + b - f ≡ q * p + b = omega arith in
      let part : front_part f b ≤ f = grind (arith, nat_tests) in
      rw (e, turns_own q) (omega arith)
