-- Sums over lists. Assumes nothing.
use Rattle.std.proofs.Common.{◌≡◌, ℕ, zero, suc, ◌+◌, ◌*◌, List, [], ◌∷◌, map, sum_by, sym, refl, ap, ◌∙◌, mul-zero, mul-add, arith}
use Rattle.std.specs.List.{range_with_len, AllByRecursion}
use Rattle.std.proofs.lemmas.List.Sums.{sum_by-cons}
use Rattle.owner_map.specs.Meaning.{sum_over}
use Rattle.sections.proofs.Sums.{sum_like, sum_first}

-- equal terms, equal sums
pub sums_like : {X : Type 0} (f g : X → ℕ) (xs : List X) → AllByRecursion (λ x. f x ≡ g x) xs → sum_by f xs ≡ sum_by g xs
sums_like f g [] same = refl
sums_like f g (x ∷ xs) same = omega (arith, sum_by-cons f x xs, sum_by-cons g x xs, same.0, sums_like f g xs same.1)

pub sums_alike : {X : Type 0} (f g : X → ℕ) (xs : List X) → ((x : X) → f x ≡ g x) → sum_by f xs ≡ sum_by g xs
sums_alike f g [] same = refl
sums_alike f g (x ∷ xs) same = omega (arith, sum_by-cons f x xs, sum_by-cons g x xs, same x, sums_alike f g xs same)

pub sums_plus : {X : Type 0} (f g : X → ℕ) (xs : List X) → sum_by (λ x. f x + g x) xs ≡ sum_by f xs + sum_by g xs
sums_plus f g [] = refl
sums_plus f g (x ∷ xs) = omega (arith, sum_by-cons (λ y. f y + g y) x xs, sum_by-cons f x xs, sum_by-cons g x xs, sums_plus f g xs)

pub sums_none : {X : Type 0} (xs : List X) → sum_by (λ _. 0) xs ≡ 0
sums_none [] = refl
sums_none {X} (x ∷ xs) = omega (arith, sum_by-cons {X = X} (λ _. 0) x xs, sums_none xs)

pub sums_scaled : {X : Type 0} (c : ℕ) (f : X → ℕ) (xs : List X) → sum_by (λ x. c * f x) xs ≡ c * sum_by f xs
sums_scaled c f [] = sym (mul-zero c)
sums_scaled c f (x ∷ xs) =
    let e : c * sum_by f (x ∷ xs) ≡ c * (f x + sum_by f xs) = ap (λ n. c * n) (sum_by-cons f x xs) in
    omega (arith, sum_by-cons (λ y. c * f y) x xs, mul-add c (f x) (sum_by f xs), sums_scaled c f xs)

-- two sums may change places
pub sums_swap : {X Y : Type 0} (f : X → Y → ℕ) (xs : List X) (ys : List Y) → sum_by (λ x. sum_by (f x) ys) xs ≡ sum_by (λ y. sum_by (λ x. f x y) xs) ys
sums_swap f xs [] = sums_none xs
sums_swap f xs (y ∷ ys) =
    let a = sums_alike (λ x. sum_by (f x) (y ∷ ys)) (λ x. f x y + sum_by (f x) ys) xs (λ x. sum_by-cons (f x) y ys) in
    omega (arith, a, sums_plus (λ x. f x y) (λ x. sum_by (f x) ys) xs, sums_swap f xs ys, sum_by-cons (λ z. sum_by (λ x. f x z) xs) y ys)

pub sums_map : {X Y : Type 0} (f : Y → ℕ) (g : X → Y) (xs : List X) → sum_by f (map g xs) ≡ sum_by (λ x. f (g x)) xs
sums_map f g [] = refl
sums_map f g (x ∷ xs) = omega (arith, sum_by-cons f (g x) (map g xs), sum_by-cons (λ y. f (g y)) x xs, sums_map f g xs)

-- a sum over numbers in succession
pub sums_counting : (f : ℕ → ℕ) (a n : ℕ) → sum_by f (range_with_len a n) ≡ sum_over n (λ i. f (a + i))
sums_counting f a zero = refl
sums_counting f a (suc n) =
    let z : f (a + 0) ≡ f a = ap f (omega arith) in
    let s = sum_like (λ i. f (a + suc i)) (λ i. f (a + 1 + i)) n (λ i h. ap f (omega arith)) in
    omega (arith, sum_by-cons f a (range_with_len (a + 1) n), sums_counting f (a + 1) n, sum_first (λ i. f (a + i)) n)

pub sums_below : (f : ℕ → ℕ) (n : ℕ) → sum_by f (range_with_len 0 n) ≡ sum_over n f
sums_below f n = sums_counting f 0 n ∙ sum_like (λ i. f (0 + i)) f n (λ i h. ap f (omega arith))
