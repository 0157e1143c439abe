-- Room on a belt: where no pair has more than d letters and one has fewer, fewer than n * n * d letters wait. Assumes nothing.
use Rattle.std.proofs.Common.{◌≡◌, ℕ, zero, suc, ◌+◌, ◌*◌, ◌<◌, ◌≤◌, Bool, true, false, cond, ◌&&◌, eqb, ◌⊎◌, List, [], ◌∷◌, length, refl, ap, ◌∙◌, ap₂, inl, inr, mul_assoc, suc-mul, arith}
use Rattle.std.proofs.lemmas.Bool.{cases_eq, cases_lt}
use Rattle.std.proofs.lemmas.Bool.Decides.{nat_tests}
use Rattle.std.proofs.lemmas.Grind.{common_steps}
use Rattle.belt.specs.declared.slots.Slot.{Slot}
use Rattle.belt.specs.Belt.{for_pair, letters_for, Kept}
use Rattle.belt.proofs.Lines.{letters_mine}

-- the sum of f over the numbers below n
abbrev tally : (ℕ → ℕ) → ℕ → ℕ
tally f zero = 0
tally f (suc k) = f k + tally f k

tally_same : (f g : ℕ → ℕ) (n : ℕ) → ((k : ℕ) → f k ≡ g k) → tally f n ≡ tally g n
tally_same f g zero e = refl
tally_same f g (suc k) e = ap₂ (λ x y. x + y) (e k) (tally_same f g k e)

tally_add : (f g : ℕ → ℕ) (n : ℕ) → tally (λ k. f k + g k) n ≡ tally f n + tally g n
tally_add f g zero = refl
tally_add f g (suc k) = omega (arith, tally_add f g k)

tally_zero : (n : ℕ) → tally (λ k. 0) n ≡ 0
tally_zero zero = refl
tally_zero (suc k) = omega (arith, tally_zero k)

tally_most : (f : ℕ → ℕ) (d n : ℕ) → ((k : ℕ) → k < n → f k ≤ d) → tally f n ≤ n * d
tally_most f d zero h = omega arith
tally_most f d (suc n) h = omega (arith, h n (omega arith), tally_most f d n (λ k l. h k (omega arith)), suc-mul n d)

tally_fewer : (f : ℕ → ℕ) (d n a : ℕ) → a < n → f a < d → ((k : ℕ) → k < n → f k ≤ d) → tally f n < n * d
tally_fewer f d zero a l less h = absurd (omega arith)
tally_fewer f d (suc n) a l less h = go (λ m. tally_fewer f d n a m less (λ k e. h k (omega arith))) (tally_most f d n (λ k e. h k (omega arith))) (cases_eq a n)
  where
    go : (a < n → tally f n < n * d) → tally f n ≤ n * d → (a ≡ n) ⊎ (a ≡ n → ⊥) → f n + tally f n < suc n * d
    go below most (inl e) = omega (arith, ap f e, suc-mul n d)
    go below most (inr ne) = omega (arith, below (omega arith), h n (omega arith), suc-mul n d)

-- one at a, and nothing elsewhere
tally_none : (a n : ℕ) → n ≤ a → tally (λ k. cond (eqb a k) 1 0) n ≡ 0
tally_none a zero l = refl
tally_none a (suc n) l = grind (arith, nat_tests, tally_none a n (omega arith))

tally_one : (a n : ℕ) → a < n → tally (λ k. cond (eqb a k) 1 0) n ≡ 1
tally_one a zero l = absurd (omega arith)
tally_one a (suc n) l = go (tally_one a n) (cases_eq a n)
  where
    go : (a < n → tally (λ k. cond (eqb a k) 1 0) n ≡ 1) → (a ≡ n) ⊎ (a ≡ n → ⊥) → cond (eqb a n) 1 0 + tally (λ k. cond (eqb a k) 1 0) n ≡ 1
    go below (inl e) = grind (arith, nat_tests, tally_none a n (omega arith))
    go below (inr ne) = grind (arith, nat_tests, below (omega arith))

module _ {V : Type 0} where
  -- how many letters of each pair of n boards a list of slots holds, summed over the pairs
  abbrev crowd : ℕ → List (Slot V) → ℕ
  crowd n slots = tally (λ p. tally (λ q. length (letters_for p q slots)) n) n

  pub one_more : (p q : ℕ) (s : Slot V) (ss : List (Slot V)) → length (letters_for p q (s ∷ ss)) ≡ cond (for_pair p q s) 1 0 + length (letters_for p q ss)
  one_more p q s ss = grind (arith, common_steps)

  -- a slot counts for one pair
  one_receiver : (p n : ℕ) (s : Slot V) → s.pair.to < n → tally (λ q. cond (for_pair p q s) 1 0) n ≡ cond (eqb s.pair.from p) 1 0
  one_receiver p n s l = go (eqb s.pair.from p)
    where
      go : (t : Bool) → tally (λ q. cond (t && eqb s.pair.to q) 1 0) n ≡ cond t 1 0
      go true = tally_one s.pair.to n l
      go false = tally_zero n

  crowd_more : (n : ℕ) (s : Slot V) (ss : List (Slot V)) → s.pair.from < n → s.pair.to < n → crowd n (s ∷ ss) ≡ 1 + crowd n ss
  crowd_more n s ss h k =
      tally_same (λ p. tally (λ q. length (letters_for p q (s ∷ ss))) n) (λ p. cond (eqb s.pair.from p) 1 0 + tally (λ q. length (letters_for p q ss)) n) n
      (λ p. tally_same (λ q. length (letters_for p q (s ∷ ss))) (λ q. cond (for_pair p q s) 1 0 + length (letters_for p q ss)) n (λ q. one_more p q s ss)
      ∙ tally_add (λ q. cond (for_pair p q s) 1 0) (λ q. length (letters_for p q ss)) n
      ∙ ap (λ x. x + tally (λ q. length (letters_for p q ss)) n) (one_receiver p n s k))
      ∙ tally_add (λ p. cond (eqb s.pair.from p) 1 0) (λ p. tally (λ q. length (letters_for p q ss)) n) n
      ∙ ap (λ x. x + crowd n ss) (tally_one s.pair.from n h)

  pub own_pair : (s : Slot V) → for_pair s.pair.from s.pair.to s ≡ true
  own_pair s = grind (arith, nat_tests)

  kept_rest : (n d : ℕ) (s : Slot V) (ss : List (Slot V)) → Kept n d (s ∷ ss) → Kept n d ss
  kept_rest n d s ss kept p q =
      let more = one_more p q s ss in
      let k = kept p q in
      (omega (arith, k.0), λ h. omega (arith, k.1 h), λ h. omega (arith, k.2 h))

  crowd_all : (n d : ℕ) (slots : List (Slot V)) → Kept n d slots → crowd n slots ≡ length slots
  crowd_all n d [] kept = tally_same (λ p. tally (λ q. 0) n) (λ p. 0) n (λ p. tally_zero n) ∙ tally_zero n
  crowd_all n d (s ∷ ss) kept =
      let mine : length (letters_for s.pair.from s.pair.to (s ∷ ss)) ≡ suc (length (letters_for s.pair.from s.pair.to ss)) = ap length (letters_mine s.pair.from s.pair.to s ss (own_pair s)) in
      let k = kept s.pair.from s.pair.to in
      let h : s.pair.from < n = below s.pair.from n (λ l. k.1 l) mine in
      let l : s.pair.to < n = below s.pair.to n (λ l. k.2 l) mine in
      omega (arith, crowd_more n s ss h l, crowd_all n d ss (kept_rest n d s ss kept))
    where
      below : {r c : ℕ} (a b : ℕ) → (b ≤ a → r ≤ 0) → r ≡ suc c → a < b
      below a b none some = go (cases_lt a b)
        where
          go : (a < b) ⊎ (b ≤ a) → a < b
          go (inl l) = l
          go (inr l) = absurd (omega (arith, none l))

  pub some_room : (n d p q : ℕ) (slots : List (Slot V)) → Kept n d slots → p < n → q < n → length (letters_for p q slots) < d → length slots < n * n * d
  some_room n d p q slots kept h k less =
      let inner : tally (λ r. length (letters_for p r slots)) n < n * d = tally_fewer (λ r. length (letters_for p r slots)) d n q k less (λ r _. (kept p r).0) in
      let outer : crowd n slots < n * (n * d) = tally_fewer (λ s. tally (λ r. length (letters_for s r slots)) n) (n * d) n p h inner (λ s _. tally_most (λ r. length (letters_for s r slots)) d n (λ r _. (kept s r).0)) in
      omega (arith, crowd_all n d slots kept, mul_assoc n n d)
