-- Lists joined, repeated and mapped: what is filtered, counted and held of all of them. Assumes nothing.
use Rattle.std.proofs.Common.{◌≡◌, ℕ, zero, suc, ◌*◌, ◌≤◌, max, ◌⊎◌, List, [], ◌∷◌, ◌++◌, map, length, fold, sum_by, sym, refl, ap, ◌∙◌, ap₂, inl, inr, suc-mul, zero-mul, arith}
use Rattle.std.specs.List.{flat_map, AllByRecursion}
use Rattle.std.proofs.ByRecursion.{All-append}
use Rattle.std.proofs.lemmas.List.{length-append}
use Rattle.std.proofs.lemmas.List.Sums.{sum_by-cons, sum_by-append}
use Rattle.sequential.specs.Laws.{In}
use Rattle.schedule.specs.Events.{again}

-- parts that are equal for each of a list
pub joined_same : {X A : Type 0} (f g : X → List A) (xs : List X) → ((x : X) → In x xs → f x ≡ g x) → flat_map f xs ≡ flat_map g xs
joined_same f g [] same = refl
joined_same f g (x ∷ xs) same = ap₂ (λ a b. a ++ b) (same x (inl refl)) (joined_same f g xs (λ y m. same y (inr m)))

pub sums_same : {X : Type 0} (f g : X → ℕ) (xs : List X) → ((x : X) → In x xs → f x ≡ g x) → sum_by f xs ≡ sum_by g xs
sums_same f g [] same = refl
sums_same f g (x ∷ xs) same = omega (arith, sum_by-cons f x xs, sum_by-cons g x xs, same x (inl refl), sums_same f g xs (λ y m. same y (inr m)))

-- what goes over two lists one after the other goes over joined and repeated ones
pub over_joined : {X A B : Type 0} (h : List A → List B) → h [] ≡ [] → ((xs ys : List A) → h (xs ++ ys) ≡ h xs ++ h ys)
    → (f : X → List A) (xs : List X) → h (flat_map f xs) ≡ flat_map (λ x. h (f x)) xs
over_joined h none over f [] = none
over_joined h none over f (x ∷ xs) = over (f x) (flat_map f xs) ∙ ap (λ r. h (f x) ++ r) (over_joined h none over f xs)

pub over_again : {A B : Type 0} (h : List A → List B) → h [] ≡ [] → ((xs ys : List A) → h (xs ++ ys) ≡ h xs ++ h ys)
    → (n : ℕ) (xs : List A) → h (again n xs) ≡ again n (h xs)
over_again h none over zero xs = none
over_again h none over (suc n) xs = over (again n xs) xs ∙ ap (λ r. r ++ h xs) (over_again h none over n xs)

-- sums over them
pub sums_joined : {X A : Type 0} (g : A → ℕ) (f : X → List A) (xs : List X) → sum_by g (flat_map f xs) ≡ sum_by (λ x. sum_by g (f x)) xs
sums_joined g f [] = refl
sums_joined g f (x ∷ xs) = omega (arith, sum_by-append g (f x) (flat_map f xs), sum_by-cons (λ y. sum_by g (f y)) x xs, sums_joined g f xs)

pub sums_again : {A : Type 0} (g : A → ℕ) (n : ℕ) (xs : List A) → sum_by g (again n xs) ≡ n * sum_by g xs
sums_again g zero xs = sym (zero-mul (sum_by g xs))
sums_again g (suc n) xs = omega (arith, sum_by-append g (again n xs) xs, sums_again g n xs, suc-mul n (sum_by g xs))

-- how long they are
pub length_again : {A : Type 0} (n : ℕ) (xs : List A) → length (again n xs) ≡ n * length xs
length_again zero xs = sym (zero-mul (length xs))
length_again (suc n) xs = omega (arith, length-append (again n xs) xs, length_again n xs, suc-mul n (length xs))

-- one of a list is one of its images, and at most the greatest
pub in_mapped : {X Y : Type 0} (f : X → Y) (x : X) (xs : List X) → In x xs → In (f x) (map f xs)
in_mapped f x [] m = absurd m
in_mapped f x (y ∷ xs) (inl e) = inl (ap f e)
in_mapped f x (y ∷ xs) (inr m) = inr (in_mapped f x xs m)

pub greatest_from : (ns : List ℕ) (a n : ℕ) → (n ≤ a) ⊎ In n ns → n ≤ fold max a ns
greatest_from [] a n (inl h) = h
greatest_from [] a n (inr m) = absurd m
greatest_from (x ∷ ns) a n (inl h) = greatest_from ns (max a x) n (inl (omega arith))
greatest_from (x ∷ ns) a n (inr (inl p)) = greatest_from ns (max a x) n (inl (omega arith))
greatest_from (x ∷ ns) a n (inr (inr m)) = greatest_from ns (max a x) n (inr m)

-- what holds of all of them
pub all_joined : {X A : Type 0} (P : A → Type 0) (f : X → List A) (xs : List X) → ((x : X) → In x xs → AllByRecursion P (f x)) → AllByRecursion P (flat_map f xs)
all_joined P f [] each = tt
all_joined P f (x ∷ xs) each = All-append P (f x) (flat_map f xs) (each x (inl refl)) (all_joined P f xs (λ y m. each y (inr m)))

pub all_again : {A : Type 0} (P : A → Type 0) (n : ℕ) (xs : List A) → AllByRecursion P xs → AllByRecursion P (again n xs)
all_again P zero xs all = tt
all_again P (suc n) xs all = All-append P (again n xs) xs (all_again P n xs all) all
