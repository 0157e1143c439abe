-- Lists joined, filtered and searched. Assumes nothing.
use Rattle.std.proofs.Common.{◌≡◌, Bool, true, false, cond, ◌&&◌, List, [], ◌∷◌, ◌++◌, map, Some, filter, sym, refl, ap, ◌∙◌, ap₂, inl, inr}
use Rattle.std.specs.List.{flat_map, AllByRecursion}
pub use Rattle.std.proofs.lemmas.Grind.{flat_map-append as joined_append}
pub use Rattle.std.proofs.lemmas.List.Concat.{flat_map_single as joined_single}
pub use Rattle.std.proofs.lemmas.List.Folds.{flat_map-map as joined_map}
use Rattle.sequential.specs.Laws.{In}
use Rattle.compiler.specs.Cells.{present}

-- what holds of all of a list holds of one of it
pub all_in : {X : Type 0} (P : X → Type 0) (xs : List X) (x : X) → AllByRecursion P xs → In x xs → P x
all_in P [] x a m = absurd m
all_in P (y ∷ xs) x a (inl e) = rw e a.0
all_in P (y ∷ xs) x a (inr m) = all_in P xs x a.1 m

pub joined_joined : {X Y A : Type 0} (f : Y → List A) (g : X → List Y) (xs : List X) → flat_map f (flat_map g xs) ≡ flat_map (λ x. flat_map f (g x)) xs
joined_joined f g [] = refl
joined_joined f g (x ∷ xs) = joined_append f (g x) (flat_map g xs) ∙ ap (λ r. flat_map f (g x) ++ r) (joined_joined f g xs)

-- equal parts, equal lists
pub joined_like : {X A : Type 0} (f g : X → List A) (xs : List X) → ((x : X) → f x ≡ g x) → flat_map f xs ≡ flat_map g xs
joined_like f g [] same = refl
joined_like f g (x ∷ xs) same = ap₂ (λ a b. a ++ b) (same x) (joined_like f g xs same)

-- empty parts
pub joined_nothing : {X A : Type 0} (f : X → List A) (xs : List X) → ((x : X) → f x ≡ []) → flat_map f xs ≡ []
joined_nothing f [] none = refl
joined_nothing f (x ∷ xs) none = ap₂ (λ a b. a ++ b) (none x) (joined_nothing f xs none)

-- of a list with no idle place nothing is dropped
pub present_all : {X : Type 0} (xs : List X) → present (map Some xs) ≡ xs
present_all [] = refl
present_all (x ∷ xs) = ap (λ r. x ∷ r) (present_all xs)

pub kept_by_all : {X : Type 0} (xs : List X) → filter (λ _. true) xs ≡ xs
kept_by_all [] = refl
kept_by_all (x ∷ xs) = ap (λ r. x ∷ r) (kept_by_all xs)

-- a filter joins parts of one or none
pub kept_by_joined : {X : Type 0} (p : X → Bool) (xs : List X) → filter p xs ≡ flat_map (λ x. cond (p x) (x ∷ []) []) xs
kept_by_joined p [] = refl
kept_by_joined p (x ∷ xs) = step (p x) (kept_by_joined p xs)
  where
    step : (t : Bool) → filter p xs ≡ flat_map (λ y. cond (p y) (y ∷ []) []) xs → cond t (x ∷ filter p xs) (filter p xs) ≡ cond t (x ∷ []) [] ++ flat_map (λ y. cond (p y) (y ∷ []) []) xs
    step true e = ap (λ r. x ∷ r) e
    step false e = e

-- equal tests, equal filters
pub kept_by_like : {X : Type 0} (p q : X → Bool) (xs : List X) → ((x : X) → p x ≡ q x) → filter p xs ≡ filter q xs
kept_by_like p q [] same = refl
kept_by_like p q (x ∷ xs) same = ap₂ (λ t r. cond t (x ∷ r) r) (same x) (kept_by_like p q xs same)

-- a filter after a filter
pub kept_by_twice : {X : Type 0} (p q : X → Bool) (xs : List X) → filter p (filter q xs) ≡ filter (λ x. q x && p x) xs
kept_by_twice p q [] = refl
kept_by_twice {X} p q (x ∷ xs) = step (q x) (kept_by_twice p q xs)
  where
    step : (t : Bool) → filter p (filter q xs) ≡ filter (λ y. q y && p y) xs → filter p (cond t (x ∷ filter q xs) (filter q xs)) ≡ cond (t && p x) (x ∷ filter (λ y. q y && p y) xs) (filter (λ y. q y && p y) xs)
    step true e = ap (λ r. cond (p x) (x ∷ r) r) e
    step false e = e

-- what a filter drops may be dropped where it gives nothing
pub joined_kept_by : {X A : Type 0} (p : X → Bool) (f : X → List A) (xs : List X) → ((x : X) → p x ≡ false → f x ≡ []) → flat_map f (filter p xs) ≡ flat_map f xs
joined_kept_by p f [] none = refl
joined_kept_by {X} p f (x ∷ xs) none = step (p x) refl (joined_kept_by p f xs none)
  where
    step : (t : Bool) → p x ≡ t → flat_map f (filter p xs) ≡ flat_map f xs → flat_map f (cond t (x ∷ filter p xs) (filter p xs)) ≡ f x ++ flat_map f xs
    step true e ih = ap (λ r. f x ++ r) ih
    step false e ih = ih ∙ ap (λ r. r ++ flat_map f xs) (sym (none x e))
