-- One of a list, and lists without repetition. Assumes nothing.
use Rattle.std.proofs.Common.{◌≡◌, ℕ, zero, suc, ◌+◌, ◌<◌, ◌≤◌, ◌⊎◌, List, [], ◌∷◌, ◌++◌, map, inl, inr, ⊎_elim, arith}
use Rattle.std.specs.List.{range_with_len}
use Rattle.sequential.specs.Laws.{In, Distinct}

pub in_append : {X : Type 0} (x : X) (xs ys : List X) → In x (xs ++ ys) → In x xs ⊎ In x ys
in_append x [] ys m = inr m
in_append x (y ∷ xs) ys (inl p) = inl (inl p)
in_append x (y ∷ xs) ys (inr m) = ⊎_elim (λ l. inl (inr l)) (λ r. inr r) (in_append x xs ys m)

pub in_map : {X Y : Type 0} (f : X → Y) (y : Y) (xs : List X) → In y (map f xs) → (x : X) × In x xs × (y ≡ f x)
in_map f y [] m = absurd m
in_map f y (x ∷ xs) (inl p) = (x, inl (λ i. x), p)
in_map f y (x ∷ xs) (inr m) = let r = in_map f y xs m in (r.0, inr r.1, r.2)

pub distinct_append : {X : Type 0} (xs ys : List X) → Distinct xs → Distinct ys → ((x : X) → In x xs → In x ys → ⊥) → Distinct (xs ++ ys)
distinct_append [] ys p q apart = q
distinct_append (x ∷ xs) ys p q apart =
    (λ m. ⊎_elim p.0 (apart x (inl (λ i. x))) (in_append x xs ys m), distinct_append xs ys p.1 q (λ y l. apart y (inr l)))

pub distinct_map : {X Y : Type 0} (f : X → Y) (xs : List X) → Distinct xs → ((x y : X) → In x xs → In y xs → f x ≡ f y → x ≡ y) → Distinct (map f xs)
distinct_map f [] p one = tt
distinct_map f (x ∷ xs) p one =
    (λ m. let r = in_map f (f x) xs m in p.0 (rw (one x r.0 (inl (λ i. x)) (inr r.1) r.2) r.1), distinct_map f xs p.1 (λ a b l r. one a b (inr l) (inr r)))

pub in_counting : (x a n : ℕ) → In x (range_with_len a n) → (a ≤ x) × (x < a + n)
in_counting x a zero m = absurd m
in_counting x a (suc n) (inl p) = (omega arith, omega arith)
in_counting x a (suc n) (inr m) = let r = in_counting x (a + 1) n m in (omega arith, omega arith)

pub distinct_counting : (a n : ℕ) → Distinct (range_with_len a n)
distinct_counting a zero = tt
distinct_counting a (suc n) = (λ m. omega (arith, in_counting a (a + 1) n m), distinct_counting (a + 1) n)
