-- One element more, moved to its place.
use Rattle.std.proofs.Common.{◌≡◌, ℕ, ◌+◌, ◌<◌, ◌≤◌, ◌≢◌, List, length, get_or, set, Option, Some, None, MatchOption, IsSome, sym, refl, ap, ◌∙◌, ⊎_elim, arith, get_or-set_other, get_or-set_same}
use Rattle.std.proofs.lemmas.List.{get_or_read}
use Rattle.std.proofs.lemmas.Bool.{cases_lt}
use Rattle.layout.specs.Places.{total, IsElement, place_of}
use Rattle.layout.proofs.PlaceLaws.{place_below, place_alone, place_taken}
use Rattle.sections.specs.Beside.{Beside}
use Rattle.sections.specs.DealtNests.{DealtNest, IsFitted}
use Rattle.sections.specs.Exchange.{SameElements}
use Rattle.sections.specs.Sections.{section_of}
use Rattle.sections.proofs.SectionPlaces.{section_alone, section_below}

-- the elements at the first n places of the arrays have the same value in both buffers
abbrev pub SameTo : {T : Type 0} → DealtNest → List T → List T → ℕ → Type 0
SameTo {T} d arrays sections n =
    (t x y : ℕ) (v : T) → IsElement d.nest.arrays t x y → place_of d.nest.arrays t x y < n
    → get_or sections (section_of d.nest.grid.rows d.deals t x y) v ≡ get_or arrays (place_of d.nest.arrays t x y) v

module _ {T : Type 0} (d : DealtNest) (arrays sections : List T) (n : ℕ) (so : SameTo d arrays sections n) where
  -- all elements
  pub same_all : total d.nest.arrays ≤ n → SameElements d.nest d.deals arrays sections
  same_all all t x y v e = so t x y v e (omega (arith, place_below d.nest.arrays t x y e))

  module _ (k : ℕ) (beside : Beside d n k) (v : T) where
    -- the element at place n, written at k in the sections
    pub scattered : IsFitted d → n < total d.nest.arrays → k < length sections → n < length arrays → v ≡ get_or arrays n v → SameTo d arrays (set sections k v) (n + 1)
    scattered fitted on room there read t x y w e l =
        ⊎_elim before (λ more. here (omega arith)) (cases_lt (place_of d.nest.arrays t x y) n)
      where
        s : ℕ
        s = section_of d.nest.grid.rows d.deals t x y

        here : place_of d.nest.arrays t x y ≡ n → get_or (set sections k v) s w ≡ get_or arrays (place_of d.nest.arrays t x y) w
        here is =
            ap (λ j. get_or (set sections k v) j w) (sym (beside t x y e is)) ∙ get_or-set_same sections k v w room ∙ get_or_read arrays n v there read w ∙ ap (λ j. get_or arrays j w) (sym is)

        before : place_of d.nest.arrays t x y < n → get_or (set sections k v) s w ≡ get_or arrays (place_of d.nest.arrays t x y) w
        before less =
            let other = place_taken d.nest.arrays n on in
            let ne : s ≢ k = λ same.
            let one = section_alone d.nest.grid d.nest.arrays d.deals fitted.0 fitted.1 t x y other.0 other.1 other.2 e other.3 (same ∙ beside other.0 other.1 other.2 other.3 other.4) in
            let met : place_of d.nest.arrays t x y ≡ n = (λ i. place_of d.nest.arrays (one.0 i) (one.1 i) (one.2 i)) ∙ other.4 in
            omega arith in
            get_or-set_other sections k s v w ne ∙ so t x y w e less

    -- the element at k in the sections, written at place n
    pub gathered : n < length arrays → k < length sections → v ≡ get_or sections k v → SameTo d (set arrays n v) sections (n + 1)
    gathered room there read t x y w e l =
        ⊎_elim before (λ more. here (omega arith)) (cases_lt (place_of d.nest.arrays t x y) n)
      where
        p : ℕ
        p = place_of d.nest.arrays t x y

        here : p ≡ n → get_or sections (section_of d.nest.grid.rows d.deals t x y) w ≡ get_or (set arrays n v) p w
        here is =
            ap (λ j. get_or sections j w) (sym (beside t x y e is)) ∙ sym (get_or_read sections k v there read w) ∙ sym (get_or-set_same arrays n v w room) ∙ ap (λ j. get_or (set arrays n v) j w) (sym is)

        before : p < n → get_or sections (section_of d.nest.grid.rows d.deals t x y) w ≡ get_or (set arrays n v) p w
        before less =
            let ne : p ≢ n = omega arith in
            so t x y w e less ∙ sym (get_or-set_other arrays n p v w ne)

-- where the element that was found lies in the sections
module _ (d : DealtNest) (fitted : IsFitted d) (place t x y s : ℕ) (e : IsElement d.nest.arrays t x y) (at : place_of d.nest.arrays t x y ≡ place) (is : s ≡ section_of d.nest.grid.rows d.deals t x y) where
  pub beside_found : Beside d place s
  beside_found u v w f there =
      let one = place_alone d.nest.arrays t x y u v w e f (at ∙ sym there) in
      is ∙ (λ i. section_of d.nest.grid.rows d.deals (one.0 i) (one.1 i) (one.2 i))

  pub section_low : s < total d.nest.arrays
  section_low = omega (arith, section_below d.nest.grid d.nest.arrays d.deals fitted.0 fitted.1 t x y e)

-- what is asked for is there
pub is_there : {A : Type 0} (P : Type 0) (Q : A → Type 0) (o : Option A) → MatchOption o (P → ⊥) Q → P → IsSome o
is_there P Q (Some a) m p = refl
is_there P Q None m p = absurd (m p)
