-- No two iterations of a statement have one target. Assumes nothing.
use Rattle.std.proofs.Common.{◌≡◌, ℕ, suc, ◌+◌, ◌-◌, ◌*◌, ◌<◌, ◌≤◌, true, not, List, [], ◌∷◌, sym, refl, ap, ◌∙◌, ap₂, inl, inr, ⊎_elim, mul-le-mul_left, mul-one, mul-add, arith}
use Rattle.std.specs.List.{flat_map}
use Rattle.std.proofs.lemmas.Bool.{cases_order}
use Rattle.nest.specs.Terms.{moved, position, Said}
use Rattle.nest.specs.Sound.{is_i}
use Rattle.nest.specs.declared.terms.Array.{Array}
use Rattle.nest.specs.declared.terms.Range.{Range}
use Rattle.nest.specs.declared.terms.Variable.{Variable}
use Rattle.nest.specs.declared.terms.Variable.TheVariants.{I, J}
use Rattle.nest.specs.declared.terms.Offset.{Offset}
use Rattle.nest.specs.declared.terms.Offset.TheVariants.{Plus, Minus}
use Rattle.nest.specs.declared.terms.Subscript.{Subscript}
use Rattle.layout.specs.Places.{total}
use Rattle.layout.proofs.PlaceLaws.{place_below, place_alone}
use Rattle.layout.proofs.Starts.{element_here}
use Rattle.sequential.specs.declared.iteration.Iteration.{Iteration}
use Rattle.sequential.specs.Iterations.{values_of, row_of, iterations, variable_in, position_in}
use Rattle.sequential.specs.Ready.{Within}
use Rattle.sequential.specs.Run.{target_in}
use Rattle.sequential.specs.Laws.{In, Distinct, TargetsApart}
use Rattle.sequential.proofs.Kept.{Parts, access_parts, factor_of, target_reached}
use Rattle.sequential.proofs.Lists.{in_append, distinct_append, distinct_map, in_counting, distinct_counting}

-- which iterations there are
in_row : (e : Iteration) (js : List ℕ) (x : ℕ) → In e (row_of js x) → (e.i ≡ x) × In e.j js
in_row e (y ∷ js) x (inl p) = (ap (λ t. t.i) p, inl (ap (λ t. t.j) p))
in_row e (y ∷ js) x (inr m) = let r = in_row e js x m in (r.0, inr r.1)
in_row e [] x m = absurd m

in_rows : (e : Iteration) (js is : List ℕ) → In e (flat_map (row_of js) is) → In e.i is × In e.j js
in_rows e js [] m = absurd m
in_rows e js (x ∷ is) m =
    ⊎_elim (λ l. let r = in_row e js x l in (inl r.0, r.1)) (λ l. let r = in_rows e js is l in (inr r.0, r.1)) (in_append e (row_of js x) (flat_map (row_of js) is) m)

in_values : (x : ℕ) (r : Range) → In x (values_of r) → (r.low ≤ x) × (x ≤ r.high)
in_values x r m = let p = in_counting x r.low (r.high + 1 - r.low) m in (p.0, omega arith)

pub in_iterations : (s : Said) (e : Iteration) → In e (iterations s.i s.j) → Within s e
in_iterations s e m =
    let r = in_rows e (values_of s.j) (values_of s.i) m in
    let p = in_values e.i s.i r.0 in
    let q = in_values e.j s.j r.1 in
    (p.0, p.1, q.0, q.1)

-- each comes once
distinct_rows : (js is : List ℕ) → Distinct js → Distinct is → Distinct (flat_map (row_of js) is)
distinct_rows js [] p q = tt
distinct_rows js (x ∷ is) p q =
    distinct_append (row_of js x) (flat_map (row_of js) is) (distinct_map (λ y. record { i = x; j = y }) js p (λ a b l r same. ap (λ t. t.j) same)) (distinct_rows js is p q.1)
    (λ e l r. q.0 (rw (sym (in_row e js x l).0) (in_rows e js is r).0))

distinct_iterations : (i j : Range) → Distinct (iterations i j)
distinct_iterations i j = distinct_rows (values_of j) (values_of i) (distinct_counting j.low (j.high + 1 - j.low)) (distinct_counting i.low (i.high + 1 - i.low))

-- with a factor from 1, a position tells its variable
multiple_up : (f v w : ℕ) → 1 ≤ f → v < w → f * v < f * w
multiple_up f v w h l = let n : suc v ≡ v + 1 = omega arith in omega (arith, mul-le-mul_left f l, rw (← n) at (mul-add f v 1), mul-one f)

moved_one : (o : Offset) (m n : ℕ) → 1 ≤ moved o m → 1 ≤ moved o n → moved o m ≡ moved o n → m ≡ n
moved_one (Plus c) m n p q e = omega arith
moved_one (Minus c) m n p q e = omega arith

position_one : (s : Subscript) (v w : ℕ) → 1 ≤ s.factor → 1 ≤ position s v → 1 ≤ position s w → position s v ≡ position s w → v ≡ w
position_one s v w h p q e =
    let same : s.factor * v ≡ s.factor * w = moved_one s.offset (s.factor * v) (s.factor * w) p q e in
    ⊎_elim (λ r. r) (⊎_elim (λ l. absurd (omega (arith, multiple_up s.factor v w h l))) (λ l. absurd (omega (arith, multiple_up s.factor w v h l)))) (cases_order v w)

by_i : (x : Variable) (e : Iteration) → is_i x ≡ true → variable_in x e ≡ e.i
by_i I e p = refl
by_i J e p = let z : ◌≡◌ {A = ℕ} 0 1 = cc in absurd (omega arith)

by_j : (x : Variable) (e : Iteration) → not (is_i x) ≡ true → variable_in x e ≡ e.j
by_j I e p = let z : ◌≡◌ {A = ℕ} 0 1 = cc in absurd (omega arith)
by_j J e p = refl

module _ (arrays : List Array) (s : Said) (kept : Parts arrays s) where
  target_one : (e f : Iteration) → Within s e → Within s f → target_in arrays s e ≡ target_in arrays s f → e ≡ f
  target_one e f p q same =
      let a = s.put in
      let x = (target_reached arrays s kept e p).element in
      let y = (target_reached arrays s kept f q).element in
      let t = place_alone arrays a.array (position_in a.row e) (position_in a.column e) a.array (position_in a.row f) (position_in a.column f) x y same in
      let k = access_parts 1 arrays s.i s.j a kept.put in
      let h = element_here arrays a.array (position_in a.row e) (position_in a.column e) x in
      let l = element_here arrays a.array (position_in a.row f) (position_in a.column f) y in
      let rows = position_one a.row (variable_in a.row.variable e) (variable_in a.row.variable f) (factor_of 1 a.row k.row).0 h.1 l.1 t.1 in
      let columns = position_one a.column (variable_in a.column.variable e) (variable_in a.column.variable f) (factor_of 1 a.column k.column).0 h.3 l.3 t.2 in
      ap₂ (λ i j. record { i = i; j = j }) (sym (by_i a.row.variable e kept.by_i) ∙ rows ∙ by_i a.row.variable f kept.by_i) (sym (by_j a.column.variable e kept.by_j) ∙ columns ∙ by_j a.column.variable f kept.by_j)

  pub targets_apart : TargetsApart arrays s
  targets_apart =
      distinct_map (target_in arrays s) (iterations s.i s.j) (distinct_iterations s.i s.j) (λ e f l r. target_one e f (in_iterations s e l) (in_iterations s f r))

  -- a target lies below the total
  pub target_below : (e : Iteration) → In e (iterations s.i s.j) → target_in arrays s e < total arrays
  target_below e m =
      let a = s.put in
      place_below arrays a.array (position_in a.row e) (position_in a.column e) (target_reached arrays s kept e (in_iterations s e m)).element
