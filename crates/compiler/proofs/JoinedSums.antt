-- Sums and lengths of lists that are joined from others. Assumes nothing.
use Rattle.std.proofs.Common.{◌≡◌, ℕ, ◌+◌, ◌*◌, List, [], ◌∷◌, length, sum_by, sym, refl, ap, ◌∙◌, suc-mul, zero-mul, arith}
use Rattle.std.specs.List.{flat_map, AllByRecursion}
use Rattle.std.proofs.ByRecursion.{All-append}
use Rattle.std.proofs.lemmas.List.{length-append}
use Rattle.std.proofs.lemmas.List.Sums.{sum_by-append, sum_by-cons}

module _ {X A : Type 0} (g : X → List A) where
  pub sum_by_joined : (f : A → ℕ) (xs : List X) → sum_by f (flat_map g xs) ≡ sum_by (λ x. sum_by f (g x)) xs
  sum_by_joined f [] = refl
  sum_by_joined f (x ∷ xs) =
      sum_by-append f (g x) (flat_map g xs) ∙ ap (λ n. sum_by f (g x) + n) (sum_by_joined f xs) ∙ sym (sum_by-cons (λ y. sum_by f (g y)) x xs)

  -- of lists that are all equally long
  pub length_joined_even : (m : ℕ) → ((x : X) → length (g x) ≡ m) → (xs : List X) → length (flat_map g xs) ≡ length xs * m
  length_joined_even m even [] = sym (zero-mul m)
  length_joined_even m even (x ∷ xs) =
      let rest = length_joined_even m even xs in
      omega (arith, length-append (g x) (flat_map g xs), even x, suc-mul (length xs) m)

  pub all_joined : (P : A → Type 0) (xs : List X) → AllByRecursion (λ x. AllByRecursion P (g x)) xs → AllByRecursion P (flat_map g xs)
  all_joined P [] h = tt
  all_joined P (x ∷ xs) h = All-append P (g x) (flat_map g xs) h.0 (all_joined P xs h.1)
