-- Storing at once is the same as storing at the end where no target is read. Assumes nothing.
use Rattle.std.proofs.Common.{◌≡◌, ℕ, ◌≢◌, List, [], ◌∷◌, map, get_or, set, fold, sym, refl, ap, ◌∙◌, ap₂, inl, inr}
use Rattle.std.proofs.lemmas.List.{get_or-set_other}
use Rattle.nest.specs.Terms.{Said}
use Rattle.nest.specs.declared.terms.ReadTerm.{ReadTerm}
use Rattle.sequential.specs.declared.iteration.Iteration.{Iteration}
use Rattle.sequential.specs.Iterations.{place_in}
use Rattle.sequential.specs.Run.{Setting, Buffers, buffers_of, with_term, value_in, target_in, hold, store, doing, Hold, Store, HoldAndStore}
use Rattle.sequential.specs.Laws.{In, Distinct}

-- a value does not depend on a place that is not read
terms_kept : {V : Type 0} (k : Setting V) (elements : List V) (e : Iteration) (n : ℕ) (v : V) (rs : List ReadTerm) (a : V)
    → ((r : ReadTerm) → In r rs → place_in k.arrays r.source e ≢ n)
    → fold (with_term k (set elements n v) e) a rs ≡ fold (with_term k elements e) a rs
terms_kept k elements e n v [] a apart = refl
terms_kept k elements e n v (r ∷ rs) a apart =
    let same = get_or-set_other elements n (place_in k.arrays r.source e) v k.outside (apart r (inl refl)) in
    ap (λ x. fold (with_term k (set elements n v) e) (k.plus a (k.times (get_or k.coefficients r.coefficient k.outside) x)) rs) same
    ∙ terms_kept k elements e n v rs (with_term k elements e a r) (λ q m. apart q (inr m))

module _ {V : Type 0} (k : Setting V) (s : Said) where
  -- no read of iteration e is of the target of iteration f
  abbrev pub Unread : Iteration → Iteration → Type 0
  Unread e f = (r : ReadTerm) → In r s.reads → place_in k.arrays r.source e ≢ target_in k.arrays s f

  -- then f may be stored after e is held
  commute : (b : Buffers V) (e f : Iteration) → Unread e f → target_in k.arrays s f ≢ target_in k.arrays s e → hold k s (store k s b f) e ≡ store k s (hold k s b e) f
  commute b e f unread apart =
      let t = target_in k.arrays s in
      ap₂ (λ x y. buffers_of (set b.elements (t f) x) (set b.held (t e) y))
      (sym (get_or-set_other b.held (t e) (t f) (value_in k s b.elements e) k.outside apart))
      (terms_kept k b.elements e (t f) (get_or b.held (t f) k.outside) s.reads (get_or k.coefficients s.base k.outside) unread)

  pull : (es : List Iteration) (b : Buffers V) (f : Iteration) → (In (target_in k.arrays s f) (map (target_in k.arrays s) es) → ⊥) → ((e : Iteration) → In e es → Unread e f)
      → fold (doing Hold k s) (store k s b f) es ≡ store k s (fold (doing Hold k s) b es) f
  pull [] b f apart unread = refl
  pull (e ∷ es) b f apart unread =
      ap (λ x. fold (doing Hold k s) x es) (commute b e f (unread e (inl refl)) (λ p. apart (inl p)))
      ∙ pull es (hold k s b e) f (λ m. apart (inr m)) (λ x m. unread x (inr m))

  pub at_once : (es : List Iteration) (b : Buffers V) → Distinct (map (target_in k.arrays s) es) → ((e f : Iteration) → In e es → In f es → Unread e f)
      → fold (doing HoldAndStore k s) b es ≡ fold (doing Store k s) (fold (doing Hold k s) b es) es
  at_once [] b apart unread = refl
  at_once (e ∷ es) b apart unread =
      at_once es (store k s (hold k s b e) e) apart.1 (λ x y l m. unread x y (inr l) (inr m))
      ∙ ap (λ x. fold (doing Store k s) x es) (pull es (hold k s b e) e apart.0 (λ x m. unread x e (inr m) (inl refl)))
