-- The loop values of a span. Assumes nothing.
use Rattle.std.proofs.Common.{◌≡◌, ℕ, zero, suc, ◌+◌, ◌-◌, ◌*◌, ◌<◌, ◌≤◌, Bool, true, false, cond, eqb, List, ◌∷◌, ◌++◌, map, Some, None, filter, Option, sym, refl, ap, ◌∙◌, ap₂, ⊎_elim, mul-le-mul_left, mul-one, mul-add, arith}
use mathlib.Core.List.{map-map}
use Rattle.std.specs.List.{range_with_len}
use Rattle.std.specs.Option.{option_to_list}
use Rattle.std.proofs.lemmas.Bool.{cond-true, cond-false, eq-eqb, ne_eqb, cases_eq, cases_order}
use Rattle.nest.specs.Terms.{moved, position}
use Rattle.nest.specs.declared.terms.Subscript.{Subscript}
use Rattle.nest.specs.declared.terms.Range.{Range}
use Rattle.nest.specs.declared.terms.Offset.{Offset}
use Rattle.nest.specs.declared.terms.Offset.TheVariants.{Plus, Minus}
use Rattle.owner_map.specs.Meaning.{Deal, extent, owner, below, position as position_of}
use Rattle.sequential.specs.Iterations.{values_of}
use Rattle.compiler.specs.declared.span.Owning.{Owning}
use Rattle.compiler.specs.Spans.{Seat, deal_for, self_for, span_of, span_values, owns_value, value_to, value_at}
use Rattle.compiler.proofs.OwnedPositions.{held_between, owned_from, held_is_owned}
use Rattle.compiler.proofs.FilteredLists.{present_all, kept_by_all}
use Rattle.compiler.specs.Cells.{present}

-- a subscript whose positions rise with the loop value, from low on
abbrev pub Rises : Subscript → ℕ → Type 0
Rises s low = (u v : ℕ) → low ≤ u → u < v → position s u < position s v

rises_later : (s : Subscript) (low : ℕ) → Rises s low → Rises s (low + 1)
rises_later s low rises u v l h = rises u v (omega arith) h

-- the loop value of the position that it reaches
pub value_found : (s : Subscript) (low n v : ℕ) → Rises s low → low ≤ v → v < low + n → value_to s (position s v) (range_with_len low n) ≡ Some v
value_found s low zero v rises l h = absurd (omega arith)
value_found s low (suc n) v rises l h = ⊎_elim first (λ e. later e (value_found s (low + 1) n v (rises_later s low rises) (omega arith) (omega arith))) (cases_eq low v)
  where
    first : low ≡ v → value_to s (position s v) (range_with_len low (suc n)) ≡ Some v
    first e = cond-true (eqb (position s low) (position s v)) (Some low) (value_to s (position s v) (range_with_len (low + 1) n)) (eq-eqb _ _ (ap (position s) e)) ∙ ap {B = Option ℕ} Some e

    later : (low ≡ v → ⊥) → value_to s (position s v) (range_with_len (low + 1) n) ≡ Some v → value_to s (position s v) (range_with_len low (suc n)) ≡ Some v
    later e ih =
        let up = rises low v (omega arith) (omega arith) in
        cond-false (eqb (position s low) (position s v)) (Some low) (value_to s (position s v) (range_with_len (low + 1) n)) (ne_eqb _ _ (omega arith)) ∙ ih

-- a position that no loop value reaches has none
pub value_missing : (s : Subscript) (x low n : ℕ) → ((u : ℕ) → low ≤ u → u < low + n → position s u ≡ x → ⊥) → value_to s x (range_with_len low n) ≡ None
value_missing s x low zero none = refl
value_missing s x low (suc n) none =
    cond-false (eqb (position s low) x) (Some low) (value_to s x (range_with_len (low + 1) n)) (ne_eqb _ _ (none low (omega arith) (omega arith)))
    ∙ value_missing s x (low + 1) n (λ u l h. none u (omega arith) (omega arith))

-- the loop values of filtered positions; loop values, filtered alike
abbrev pub values_for : Subscript → List ℕ → (ℕ → Bool) → List ℕ → List ℕ
values_for s vs own xs = present (map (λ x. value_to s x vs) (filter own xs))

abbrev pub reaching : Subscript → (ℕ → Bool) → List ℕ → List ℕ
reaching s own vs = filter (λ v. own (position s v)) vs

-- a position with a loop value, and one without
value_more : (s : Subscript) (all : List ℕ) (own : ℕ → Bool) (x v : ℕ) (xs vs : List ℕ) → x ≡ position s v → value_to s x all ≡ Some v → values_for s all own xs ≡ reaching s own vs
    → values_for s all own (x ∷ xs) ≡ reaching s own (v ∷ vs)
value_more s all own x v xs vs e found ih = ap (λ t. present (map (λ y. value_to s y all) (cond t (x ∷ filter own xs) (filter own xs)))) (ap own e) ∙ step (own (position s v))
  where
    step : (t : Bool) → present (map (λ y. value_to s y all) (cond t (x ∷ filter own xs) (filter own xs))) ≡ cond t (v ∷ reaching s own vs) (reaching s own vs)
    step true = ap₂ {A = Option ℕ} {C = List ℕ} (λ o r. option_to_list o ++ r) found ih
    step false = ih

value_none : (s : Subscript) (all : List ℕ) (own : ℕ → Bool) (x : ℕ) (xs vs : List ℕ) → value_to s x all ≡ None → values_for s all own xs ≡ reaching s own vs
    → values_for s all own (x ∷ xs) ≡ reaching s own vs
value_none s all own x xs vs none ih = step (own x)
  where
    step : (t : Bool) → present (map (λ y. value_to s y all) (cond t (x ∷ filter own xs) (filter own xs))) ≡ reaching s own vs
    step true = ap₂ {A = Option ℕ} {C = List ℕ} (λ o r. option_to_list o ++ r) none ih
    step false = ih

-- the positions from the first that a range reaches to the last, filtered, have the loop values of the range, filtered alike
module _ (s : Subscript) (own : ℕ → Bool) (low k last : ℕ) (rises : Rises s low) (some : low ≤ last) (ends : last + 1 ≡ low + k) where
  never : (v n : ℕ) → low ≤ v → v + suc n ≡ low + k → position s last + 1 ≤ position s v → ⊥
  never v n l e h = ⊎_elim (λ same. omega (arith, ap (position s) same)) (λ other. omega (arith, rises v last l (omega arith))) (cases_eq v last)

  between_missing : (x v : ℕ) → ((u : ℕ) → low ≤ u → u < v → position s u < x) → low ≤ v → x < position s v → value_to s x (range_with_len low k) ≡ None
  between_missing x v before l h = value_missing s x low k away
    where
      away : (u : ℕ) → low ≤ u → u < low + k → position s u ≡ x → ⊥
      away u m n e =
          ⊎_elim (λ same. omega (arith, ap (position s) same)) (⊎_elim (λ less. omega (arith, before u m less)) (λ more. omega (arith, rises v u l more))) (cases_order u v)

  walked : (m x v n : ℕ) → low ≤ v → v + n ≡ low + k → x ≤ position s v → ((u : ℕ) → low ≤ u → u < v → position s u < x) → x + m ≡ position s last + 1
      → values_for s (range_with_len low k) own (range_with_len x m) ≡ reaching s own (range_with_len v n)
  walked zero x v zero l e h before f = refl
  walked zero x v (suc n) l e h before f = absurd (never v n l e (omega arith))
  walked (suc m) x v zero l e h before f = absurd (omega (arith, before last some (omega arith)))
  walked (suc m) x v (suc n) l e h before f =
      ⊎_elim
      (λ same. value_more s (range_with_len low k) own x v (range_with_len (x + 1) m) (range_with_len (v + 1) n) same (rw same (value_found s low k v rises l (omega arith))) (walked m (x + 1) (v + 1) n (omega arith) (omega arith) (omega (arith, rises v (v + 1) l (omega arith))) (after same) (omega arith)))
      (λ other. value_none s (range_with_len low k) own x (range_with_len (x + 1) m) (range_with_len v (suc n)) (between_missing x v before l (omega arith)) (walked m (x + 1) v (suc n) l e (omega arith) (λ u a b. omega (arith, before u a b)) (omega arith)))
      (cases_eq x (position s v))
    where
      after : x ≡ position s v → (u : ℕ) → low ≤ u → u < v + 1 → position s u < x + 1
      after same u a b = ⊎_elim (λ it. omega (arith, ap (position s) it)) (λ other. omega (arith, before u a (omega arith))) (cases_eq u v)

  pub range_values : values_for s (range_with_len low k) own (range_with_len (position s low) (position s last + 1 - position s low)) ≡ reaching s own (range_with_len low k)
  range_values = walked (position s last + 1 - position s low) (position s low) low k (omega arith) refl (omega arith) (λ u a b. absurd (omega arith)) (omega (arith, up))
    where
      up : position s low ≤ position s last
      up = ⊎_elim (λ same. omega (arith, ap (position s) same)) (λ other. omega (arith, rises low last (omega arith) (omega arith))) (cases_eq low last)

-- with a factor from 1, positions rise from the first that is a position on
multiple_up : (f v w : ℕ) → 1 ≤ f → v < w → f * v < f * w
multiple_up f v w h l = let n : suc v ≡ v + 1 = omega arith in omega (arith, mul-le-mul_left f l, rw (← n) at (mul-add f v 1), mul-one f)

moved_rises : (o : Offset) (a m n : ℕ) → 1 ≤ moved o a → a ≤ m → m < n → moved o m < moved o n
moved_rises (Plus c) a m n l h k = omega arith
moved_rises (Minus c) a m n l h k = omega arith

pub factor_rises : (s : Subscript) (low : ℕ) → 1 ≤ s.factor → 1 ≤ position s low → Rises s low
factor_rises s low f l u v h k = moved_rises s.offset (s.factor * low) (s.factor * u) (s.factor * v) l (mul-le-mul_left s.factor h) (multiple_up s.factor u v f k)

-- the positions that a span reaches through its subscript, over a loop range, are in the dimension, and rise with the loop value
pub record Reaching (b : Seat) (r : Range) (o : Owning) : Type 0 where
  pub some : r.low ≤ r.high
  pub rises : Rises o.subscript r.low
  pub low : 1 ≤ position o.subscript r.low
  pub high : position o.subscript r.high ≤ extent (deal_for b o)

abbrev pub SpanFits : Seat → Range → Option Owning → Type 0
SpanFits b r None = Unit {0}
SpanFits b r (Some o) = Reaching b r o

pub reach_up : (b : Seat) (r : Range) (o : Owning) → Reaching b r o → position o.subscript r.low ≤ position o.subscript r.high
reach_up b r o fits =
    ⊎_elim (λ same. omega (arith, ap (position o.subscript) same)) (λ other. omega (arith, fits.rises r.low r.high (omega arith) (omega (arith, fits.some)))) (cases_eq r.low r.high)

-- the loop values of a span, idle ones dropped, are the loop range filtered by ownership
pub span_values_lem : (b : Seat) (r : Range) (k : Option Owning) → SpanFits b r k → present (span_values b r (span_of b k r)) ≡ filter (owns_value b k) (values_of r)
span_values_lem b r None fits = present_all (values_of r) ∙ sym (kept_by_all (values_of r))
span_values_lem b r (Some o) fits =
    let s : Subscript = o.subscript in
    let d : Deal = deal_for b o in
    let me : ℕ = self_for b o in
    let low : ℕ = position s r.low in
    let n : ℕ = position s r.high + 1 - low in
    let own : (ℕ → Bool) = λ x. eqb (owner d x) me in
    let up = reach_up b r o fits in
    let bound : position s r.high + 1 ≡ low + n = omega arith in
    let held : held_between d me low (position s r.high + 1) ≡ map Some (owned_from d me low n) =
    ap (held_between d me low) bound ∙ held_is_owned d me low n fits.low (omega (arith, fits.high)) in
    ap present (sym (map-map (value_at s r) (position_of d me) (range_with_len (below d me low) (below d me (position s r.high + 1) - below d me low))))
    ∙ ap (λ (l : List (Option ℕ)). present (map (value_at s r) l)) held
    ∙ ap present (map-map {B = Option ℕ} (value_at s r) Some (owned_from d me low n))
    ∙ range_values s own r.low (r.high + 1 - r.low) r.high fits.rises fits.some (omega (arith, fits.some))
