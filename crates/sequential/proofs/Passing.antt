-- Passes over iterations with targets apart. Assumes nothing.
use Rattle.std.proofs.Common.{◌≡◌, ℕ, ◌<◌, List, [], ◌∷◌, map, length, get_or, set, fold, sym, refl, ap, ◌∙◌, inl, inr}
use Rattle.std.proofs.lemmas.List.{length-set, get_or-set_same, get_or-set_other}
use Rattle.nest.specs.Terms.{Said}
use Rattle.sequential.specs.declared.iteration.Iteration.{Iteration}
use Rattle.sequential.specs.Run.{Setting, Buffers, value_in, target_in, hold, store, doing, Hold, Store}
use Rattle.sequential.specs.Laws.{In, Distinct}

-- a value for each iteration, written at its target one after the other
module _ {V : Type 0} (t : Iteration → ℕ) (v : Iteration → V) where
  abbrev pub written : List V → List Iteration → List V
  written xs es = fold (λ ys e. set ys (t e) (v e)) xs es

  pub written_length : (es : List Iteration) (xs : List V) → length (written xs es) ≡ length xs
  written_length [] xs = refl
  written_length (e ∷ es) xs = written_length es (set xs (t e) (v e)) ∙ length-set xs (t e) (v e)

  pub written_other : (es : List Iteration) (xs : List V) (n : ℕ) (d : V) → (In n (map t es) → ⊥) → get_or (written xs es) n d ≡ get_or xs n d
  written_other [] xs n d none = refl
  written_other (e ∷ es) xs n d none =
      written_other es (set xs (t e) (v e)) n d (λ m. none (inr m)) ∙ get_or-set_other xs (t e) n (v e) d (λ p. none (inl p))

  pub written_target : (es : List Iteration) (xs : List V) (d : V) → Distinct (map t es) → ((e : Iteration) → In e es → t e < length xs)
      → (e : Iteration) → In e es → get_or (written xs es) (t e) d ≡ v e
  written_target [] xs d apart below e m = absurd m
  written_target (f ∷ es) xs d apart below e (inl p) =
      ap (λ x. get_or (written xs (f ∷ es)) (t x) d) p
      ∙ (written_other es (set xs (t f) (v f)) (t f) d apart.0 ∙ get_or-set_same xs (t f) (v f) d (below f (inl refl)))
      ∙ ap v (sym p)
  written_target (f ∷ es) xs d apart below e (inr m) =
      written_target es (set xs (t f) (v f)) d apart.1 (λ x l. rw (length-set xs (t f) (v f)) (below x (inr l))) e m

module _ {V : Type 0} (k : Setting V) (s : Said) where
  -- holding leaves the elements, and writes the values
  pub held_elements : (es : List Iteration) (b : Buffers V) → (fold (doing Hold k s) b es).elements ≡ b.elements
  held_elements [] b = refl
  held_elements (e ∷ es) b = held_elements es (hold k s b e)

  pub held_written : (es : List Iteration) (b : Buffers V) → (fold (doing Hold k s) b es).held ≡ written (target_in k.arrays s) (value_in k s b.elements) b.held es
  held_written [] b = refl
  held_written (e ∷ es) b = held_written es (hold k s b e)

  pub held_length : (es : List Iteration) (b : Buffers V) → length (fold (doing Hold k s) b es).held ≡ length b.held
  held_length es b = ap length (held_written es b) ∙ written_length (target_in k.arrays s) (value_in k s b.elements) es b.held

  -- storing leaves what is held, and writes it
  pub stored_held : (es : List Iteration) (b : Buffers V) → (fold (doing Store k s) b es).held ≡ b.held
  stored_held [] b = refl
  stored_held (e ∷ es) b = stored_held es (store k s b e)

  abbrev pub held_for : Buffers V → Iteration → V
  held_for b e = get_or b.held (target_in k.arrays s e) k.outside

  pub stored_written : (es : List Iteration) (b : Buffers V) → (fold (doing Store k s) b es).elements ≡ written (target_in k.arrays s) (held_for b) b.elements es
  stored_written [] b = refl
  stored_written (e ∷ es) b = stored_written es (store k s b e)

  pub stored_length : (es : List Iteration) (b : Buffers V) → length (fold (doing Store k s) b es).elements ≡ length b.elements
  stored_length es b = ap length (stored_written es b) ∙ written_length (target_in k.arrays s) (held_for b) es b.elements
