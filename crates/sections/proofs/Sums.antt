-- Sums over all numbers below a bound, and numbers split by such sums.
use Rattle.std.proofs.Common.{◌≡◌, ℕ, zero, suc, ◌+◌, ◌-◌, ◌*◌, ◌/◌, ◌%◌, ◌<◌, ◌≤◌, refl, ap, ◌∙◌, ap₂, ⊎_elim, mul_comm, add-mul, mul-zero, mul-suc, mul-add, arith}
use Rattle.std.proofs.lemmas.Nat.{div-mul-add, mod-mul-add}
use Rattle.std.proofs.lemmas.Bool.{cases_lt, cases_order}
use Rattle.owner_map.specs.Meaning.{sum_over}

-- more terms, no smaller sum
pub sum_grows : (f : ℕ → ℕ) (p n : ℕ) → p ≤ n → sum_over p f ≤ sum_over n f
sum_grows f p zero h = let e : p ≡ 0 = omega arith in let s : sum_over p f ≡ 0 = ap (λ m. sum_over m f) e in omega arith
sum_grows f p (suc n) h =
    ⊎_elim (λ l. let ih = sum_grows f p n (omega arith) in omega arith)
    (λ l. let e : p ≡ suc n = omega arith in let s : sum_over p f ≡ sum_over n f + f n = ap (λ m. sum_over m f) e in omega arith)
    (cases_lt p (suc n))

-- a number below the term of p, counted from the sum of the terms before
pub sum_below : (f : ℕ → ℕ) (p n j : ℕ) → p < n → j < f p → sum_over p f + j < sum_over n f
sum_below f p n j h l = let g = sum_grows f (suc p) n (omega arith) in omega arith

pub sum_alone : (f : ℕ → ℕ) (p r j k : ℕ) → j < f p → k < f r → sum_over p f + j ≡ sum_over r f + k → (p ≡ r) × (j ≡ k)
sum_alone f p r j k hj hk e =
    ⊎_elim (λ s. let q : sum_over p f ≡ sum_over r f = ap (λ m. sum_over m f) s in (s, omega arith))
    (λ o. absurd (⊎_elim (λ l. omega (arith, sum_below f p r j l hj)) (λ l. omega (arith, sum_below f r p k l hk)) o))
    (cases_order p r)

pub sum_taken : (f : ℕ → ℕ) (n k : ℕ) → k < sum_over n f → (p : ℕ) × (j : ℕ) × (p < n) × (j < f p) × (sum_over p f + j ≡ k)
sum_taken f zero k h = absurd (omega arith)
sum_taken f (suc n) k h =
    ⊎_elim (λ l. let s = sum_taken f n k l in (s.0, s.1, omega arith, s.3, s.4))
    (λ l. (n, k - sum_over n f, omega arith, omega arith, omega arith))
    (cases_lt k (sum_over n f))

-- equal terms, equal sums
pub sum_like : (f g : ℕ → ℕ) (n : ℕ) → ((i : ℕ) → i < n → f i ≡ g i) → sum_over n f ≡ sum_over n g
sum_like f g zero same = refl
sum_like f g (suc n) same = ap₂ (λ a b. a + b) (sum_like f g n (λ i h. same i (omega arith))) (same n (omega arith))

pub sum_none : (n : ℕ) → sum_over n (λ _. 0) ≡ 0
sum_none zero = refl
sum_none (suc n) = let ih = sum_none n in omega arith

-- the first term and the rest
pub sum_first : (f : ℕ → ℕ) (n : ℕ) → sum_over (suc n) f ≡ f 0 + sum_over n (λ i. f (suc i))
sum_first f zero = omega arith
sum_first f (suc n) = let ih = sum_first f n in omega arith

sum_join : (f : ℕ → ℕ) (a b : ℕ) → sum_over (a + b) f ≡ sum_over a f + sum_over b (λ i. f (a + i))
sum_join f a zero = let e : a + 0 ≡ a = omega arith in let s = ap (λ m. sum_over m f) e in omega arith
sum_join f a (suc b) =
    let e : a + suc b ≡ suc (a + b) = omega arith in
    let s : sum_over (a + suc b) f ≡ sum_over (a + b) f + f (a + b) = ap (λ m. sum_over m f) e in
    let ih = sum_join f a b in
    omega arith

pub sum_plus : (f g : ℕ → ℕ) (n : ℕ) → sum_over n (λ i. f i + g i) ≡ sum_over n f + sum_over n g
sum_plus f g zero = refl
sum_plus f g (suc n) = let ih = sum_plus f g n in omega arith

pub sum_scaled : (f : ℕ → ℕ) (c n : ℕ) → sum_over n (λ i. f i * c) ≡ sum_over n f * c
sum_scaled f c zero = let z = mul_comm 0 c in let y = mul-zero c in omega arith
sum_scaled f c (suc n) = let ih = sum_scaled f c n in let a = add-mul (sum_over n f) (f n) c in omega arith

-- two sums may change places
pub sum_swap : (f : ℕ → ℕ → ℕ) (n m : ℕ) → sum_over n (λ i. sum_over m (f i)) ≡ sum_over m (λ j. sum_over n (λ i. f i j))
sum_swap f n zero = sum_none n
sum_swap f n (suc m) =
    let ih = sum_swap f n m in
    let s = sum_plus (λ i. sum_over m (f i)) (λ i. f i m) n in
    omega arith

-- over a grid of q rows and s columns the sum of products is the product of the sums
pub sum_grid : (f g : ℕ → ℕ) (q s : ℕ) → sum_over (q * s) (λ p. f (p % q) * g (p / q)) ≡ sum_over q f * sum_over s g
sum_grid f g q zero =
    let e = mul-zero q in
    let z = mul-zero (sum_over q f) in
    let t : sum_over (q * 0) (λ p. f (p % q) * g (p / q)) ≡ 0 = ap (λ m. sum_over m (λ p. f (p % q) * g (p / q))) e in
    omega arith
sum_grid f g q (suc s) =
    let cell : ℕ → ℕ = λ p. f (p % q) * g (p / q) in
    let t : sum_over (q * suc s) cell ≡ sum_over (q * s + q) cell = ap (λ m. sum_over m cell) (mul-suc q s) in
    let j = sum_join cell (q * s) q in
    let c : sum_over q (λ i. cell (q * s + i)) ≡ sum_over q (λ i. f i * g s) = sum_like (λ i. cell (q * s + i)) (λ i. f i * g s) q row in
    let k = sum_scaled f (g s) q in
    let ih = sum_grid f g q s in
    let d = mul-add (sum_over q f) (sum_over s g) (g s) in
    omega arith
  where
    row : (i : ℕ) → i < q → f ((q * s + i) % q) * g ((q * s + i) / q) ≡ f i * g s
    row i h =
        let a : q * s + i ≡ s * q + i = ap (λ m. m + i) (mul_comm q s) in
        ap₂ (λ m n. f m * g n) (ap (λ m. m % q) a ∙ mod-mul-add s q i h) (ap (λ m. m / q) a ∙ div-mul-add s q i h)
