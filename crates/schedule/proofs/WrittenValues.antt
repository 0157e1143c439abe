-- Values written at elements: one after the other, each made from the value that stood there. Assumes nothing.
use Rattle.std.proofs.Common.{◌≡◌, ℕ, ◌<◌, true, ◌&&◌, eqb, ◌⊎◌, List, [], ◌∷◌, map, length, get_or, set, fold, sym, refl, ap, ◌∙◌, inl, inr, ⊎_elim}
use Rattle.std.proofs.lemmas.List.{get_or-set_same, get_or-set_other}
use Rattle.std.proofs.lemmas.Bool.{both_ways, cases_Bool, eqb-true, eq-eqb, and_parts, and_from, cond-true, cond-false}
use Rattle.nest.specs.declared.terms.Array.{Array}
use Rattle.layout.specs.Places.{place_of}
use Rattle.layout.proofs.PlaceLaws.{place_alone}
use Rattle.sections.specs.Order.{Element}
use Rattle.sequential.specs.Laws.{In, Distinct}
use Rattle.schedule.specs.Boards.{same_element, written}
use Rattle.schedule.specs.Start.{There, Agrees}
use Rattle.schedule.proofs.EventLists.{in_mapped}

-- equal elements pass the test, and only they
pub same_itself : (e : Element) → same_element e e ≡ true
same_itself e =
    and_from (eqb e.0 e.0 && eqb e.1 e.1) (eqb e.2 e.2)
    (and_from (eqb e.0 e.0) (eqb e.1 e.1) (eq-eqb e.0 e.0 refl) (eq-eqb e.1 e.1 refl)) (eq-eqb e.2 e.2 refl)

pub same_are_one : (x e : Element) → same_element x e ≡ true → x ≡ e
same_are_one x e t =
    let p = and_parts (eqb x.0 e.0 && eqb x.1 e.1) (eqb x.2 e.2) t in
    let q = and_parts (eqb x.0 e.0) (eqb x.1 e.1) p.0 in
    let a = eqb-true x.0 e.0 q.0 in
    let b = eqb-true x.1 e.1 q.1 in
    let c = eqb-true x.2 e.2 p.1 in
    λ i. (a i, b i, c i)

-- two elements are one or are not
pub one_or_two : (x e : Element) → (x ≡ e) ⊎ (x ≡ e → ⊥)
one_or_two x e = ⊎_elim (λ t. inl (same_are_one x e t)) (λ f. inr (λ p. both_ways (same_element x e) f (ap (λ y. same_element y e) p ∙ same_itself e))) (cases_Bool (same_element x e))

module _ {V : Type 0} where
  pub written_there : (e : Element) (v : V) (values : Element → V) → written e v values e ≡ v
  unfolding written
  written_there e v values = cond-true (same_element e e) v (values e) (same_itself e)

  pub written_elsewhere : (e : Element) (v : V) (values : Element → V) (x : Element) → (x ≡ e → ⊥) → written e v values x ≡ values x
  unfolding written
  written_elsewhere e v values x apart = ⊎_elim (λ t. absurd (apart (same_are_one x e t))) (λ f. cond-false (same_element x e) v (values x) f) (cases_Bool (same_element x e))

  -- a value written at an element agrees with a value set at its place
  pub agrees_written : (arrays : List Array) (outside : V) (values : Element → V) (buffer : List V) (e : Element) (v : V)
      → There arrays e → place_of arrays e.0 e.1 e.2 < length buffer → Agrees arrays outside values buffer
      → Agrees arrays outside (written e v values) (set buffer (place_of arrays e.0 e.1 e.2) v)
  agrees_written arrays outside values buffer e v there below agrees x at =
      ⊎_elim
      (λ p. ap (written e v values) p ∙ written_there e v values ∙ sym (get_or-set_same buffer place v outside below) ∙ ap (λ (y : Element). get_or (set buffer place v) (place_of arrays y.0 y.1 y.2) outside) (sym p))
      (λ apart. written_elsewhere e v values x apart ∙ agrees x at ∙ sym (get_or-set_other buffer place (place_of arrays x.0 x.1 x.2) v outside (λ same. apart (one_at same))))
      (one_or_two x e)
    where
      place : ℕ
      place = place_of arrays e.0 e.1 e.2

      one_at : place_of arrays x.0 x.1 x.2 ≡ place_of arrays e.0 e.1 e.2 → x ≡ e
      one_at same =
          let t = place_alone arrays x.0 x.1 x.2 e.0 e.1 e.2 at there same in
          λ i. (t.0 i, t.1 i, t.2 i)

-- over a list, at the target of each, the value made from the one that stood there
module _ {V X : Type 0} (target : X → Element) (make : X → V → V) where
  abbrev pub rewritten : (Element → V) → X → Element → V
  rewritten values e = written (target e) (make e (values (target e))) values

  pub others_stay : (es : List X) (values : Element → V) (x : Element) → (In x (map target es) → ⊥) → fold rewritten values es x ≡ values x
  others_stay [] values x none = refl
  others_stay (e ∷ es) values x none =
      others_stay es (rewritten values e) x (λ m. none (inr m)) ∙ written_elsewhere (target e) (make e (values (target e))) values x (λ p. none (inl p))

  -- targets that are apart are written once each
  pub targets_made : (es : List X) (values : Element → V) → Distinct (map target es) → (e : X) → In e es → fold rewritten values es (target e) ≡ make e (values (target e))
  targets_made [] values apart e m = absurd m
  targets_made (f ∷ es) values apart e (inl p) =
      ap (λ x. fold rewritten values (f ∷ es) (target x)) p
      ∙ others_stay es (rewritten values f) (target f) apart.0 ∙ written_there (target f) (make f (values (target f))) values
      ∙ ap (λ x. make x (values (target x))) (sym p)
  targets_made (f ∷ es) values apart e (inr m) =
      targets_made es (rewritten values f) apart.1 e m
      ∙ ap (make e) (written_elsewhere (target f) (make f (values (target f))) values (target e) (λ p. apart.0 (rw p at (in_mapped target e es m))))
