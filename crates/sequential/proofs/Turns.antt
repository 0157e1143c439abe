-- The iterations so far, turn by turn. Assumes nothing.
use Rattle.std.proofs.Common.{◌≡◌, ℕ, ◌+◌, ◌-◌, ◌≤◌, List, [], ◌∷◌, ◌++◌, fold, sym, refl, ap, ◌∙◌, arith}
use Rattle.std.specs.List.{range_with_len, flat_map}
use Rattle.std.proofs.lemmas.List.FromFn.{map-range_with_len_more}
use Rattle.std.proofs.lemmas.List.{append-nil, map-id}
use Rattle.std.proofs.lemmas.List.Sums.{fold_push, fold-append}
use Rattle.std.proofs.lemmas.Grind.{flat_map-append}
use Rattle.nest.specs.declared.terms.Range.{Range}
use Rattle.sequential.specs.declared.iteration.Iteration.{Iteration}
use Rattle.sequential.specs.Iterations.{values_of, row_of, iterations}

-- the iterations of row x before column y
abbrev pub row_before : ℕ → Range → ℕ → List Iteration
row_before x j y = row_of (range_with_len j.low (y - j.low)) x

-- the iterations of all rows before row x
abbrev pub rows_before : Range → Range → ℕ → List Iteration
rows_before i j x = flat_map (row_of (values_of j)) (range_with_len i.low (x - i.low))

counting_more : (a n j : ℕ) → a + n ≡ j → range_with_len a (n + 1) ≡ range_with_len a n ++ j ∷ []
counting_more a n j h = sym (map-id (range_with_len a (n + 1))) ∙ map-range_with_len_more (λ x. x) a n j h ∙ ap (λ xs. xs ++ j ∷ []) (map-id (range_with_len a n))

joined_push : {X A : Type 0} (f : X → List A) (xs : List X) (x : X) → flat_map f (xs ++ x ∷ []) ≡ flat_map f xs ++ f x
joined_push f xs x = flat_map-append f xs (x ∷ []) ∙ ap (λ t. flat_map f xs ++ t) (append-nil (f x))

module _ {B : Type 0} (f : B → Iteration → B) (b : B) where
  pub row_none : (x : ℕ) (j : Range) → b ≡ fold f b (row_before x j j.low)
  row_none x j = let z : j.low - j.low ≡ 0 = omega arith in rw z refl

  pub row_more : (x : ℕ) (j : Range) (y : ℕ) (before after : B) → j.low ≤ y → before ≡ fold f b (row_before x j y) → after ≡ f before (record { i = x; j = y }) → after ≡ fold f b (row_before x j (y + 1))
  row_more x j y before after h so step =
      let n : y + 1 - j.low ≡ (y - j.low) + 1 = omega arith in
      let at : ℕ → Iteration = λ z. record { i = x; j = z } in
      step ∙ ap (λ t. f t (at y)) so ∙ sym (fold_push f b (row_before x j y) (at y)) ∙ ap (fold f b) (sym (map-range_with_len_more at j.low (y - j.low) y (omega arith)) ∙ ap (λ t. row_of (range_with_len j.low t) x) (sym n))

  pub rows_none : (i j : Range) → b ≡ fold f b (rows_before i j i.low)
  rows_none i j = let z : i.low - i.low ≡ 0 = omega arith in rw z refl

  pub rows_more : (i j : Range) (x y : ℕ) (before after : B) → i.low ≤ x → y ≡ j.high + 1 → before ≡ fold f b (rows_before i j x) → after ≡ fold f before (row_before x j y) → after ≡ fold f b (rows_before i j (x + 1))
  rows_more i j x y before after h end so step =
      let n : x + 1 - i.low ≡ (x - i.low) + 1 = omega arith in
      let row = row_of (values_of j) in
      step ∙ ap (λ t. fold f before (row_before x j t)) end ∙ ap (λ t. fold f t (row x)) so ∙ sym (fold-append f b (rows_before i j x) (row x))
      ∙ ap (fold f b) (sym (joined_push row (range_with_len i.low (x - i.low)) x) ∙ ap (flat_map row) (sym (counting_more i.low (x - i.low) x (omega arith)) ∙ ap (range_with_len i.low) (sym n)))

  pub rows_all : (i j : Range) (x : ℕ) (after : B) → x ≡ i.high + 1 → after ≡ fold f b (rows_before i j x) → after ≡ fold f b (iterations i j)
  rows_all i j x after end so = so ∙ ap (λ t. fold f b (rows_before i j t)) end
