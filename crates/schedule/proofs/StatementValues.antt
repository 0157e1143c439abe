-- The values that the events of a statement hold and store are those of the statement in sequence. Assumes nothing.
use Rattle.std.proofs.Common.{◌≡◌, ◌⊎◌, List, [], ◌∷◌, map, get_or, fold, sym, refl, ap, ◌∙◌, inl, inr, ⊎_elim}
use Rattle.nest.specs.Terms.{Said}
use Rattle.nest.specs.declared.terms.ReadTerm.{ReadTerm}
use Rattle.layout.specs.Places.{place_of}
use Rattle.layout.proofs.PlaceLaws.{place_alone}
use Rattle.sections.specs.Order.{Element}
use Rattle.sequential.specs.Iterations.{iterations}
use Rattle.sequential.specs.Run.{Setting, Buffers, value_in, target_in, with_term as withTermOf}
use Rattle.sequential.specs.Laws.{In, Distinct, targets_of, StoredTogether}
use Rattle.sequential.specs.declared.iteration.Iteration.{Iteration}
use Rattle.sequential.proofs.Lists.{in_map}
use Rattle.compiler.specs.Cells.{element_at}
use Rattle.schedule.specs.Boards.{coefficient_of}
use Rattle.schedule.specs.Start.{There, Agrees}
use Rattle.schedule.proofs.EventLists.{in_mapped}
use Rattle.schedule.proofs.WrittenValues.{one_or_two, others_stay, targets_made}
use Rattle.schedule.proofs.TaskEvents.{target_at, term_added}
use Rattle.schedule.proofs.StatementPasses.{bases_held, terms_held, all_stored, values_held}

-- the value that a statement computes in an iteration from a value for each element
abbrev pub value_from : {V : Type 0} → Setting V → Said → (Element → V) → Iteration → V
value_from k s elements e = fold (λ v r. term_added k elements r e v) (coefficient_of k s.base) s.reads

-- elements are apart where their images are
pub distinct_back : {X Y Z : Type 0} (f : X → Y) (g : Y → Z) (xs : List X) → Distinct (map (λ x. g (f x)) xs) → Distinct (map f xs)
distinct_back f g [] p = tt
distinct_back {X} f g (x ∷ xs) p = (λ m. p.0 (there xs m), distinct_back f g xs p.1)
  where
    there : (ys : List X) → In (f x) (map f ys) → In (g (f x)) (map (λ y. g (f y)) ys)
    there (y ∷ ys) (inl q) = inl (ap g q)
    there (y ∷ ys) (inr m) = inr (there ys m)
    there [] m = absurd m

-- an element is the target of one of some iterations, or of none
found : {X : Type 0} (target : X → Element) (es : List X) (x : Element) → ((e : X) × In e es × (x ≡ target e)) ⊎ (In x (map target es) → ⊥)
found target [] x = inr (λ m. m)
found {X} target (f ∷ es) x = ⊎_elim (λ p. inl (f, inl refl, p)) (λ apart. later apart (found target es x)) (one_or_two x (target f))
  where
    later : (x ≡ target f → ⊥) → ((e : X) × In e es × (x ≡ target e)) ⊎ (In x (map target es) → ⊥)
        → ((e : X) × In e (f ∷ es) × (x ≡ target e)) ⊎ (In x (map target (f ∷ es)) → ⊥)
    later apart (inl h) = inl (h.0, inr h.1, h.2)
    later apart (inr none) = inr (λ m. ⊎_elim apart none m)

module _ {V : Type 0} (k : Setting V) (s : Said) where
  -- what is held for a target after the terms of some reads
  terms_held_lem : (elements : Element → V) (es : List Iteration) → Distinct (map (target_at s) es) → (e : Iteration) → In e es → (reads : List ReadTerm) (held : Element → V)
      → fold (terms_held k s elements es) held reads (target_at s e) ≡ fold (λ v r. term_added k elements r e v) (held (target_at s e)) reads
  terms_held_lem elements es apart e m [] held = refl
  terms_held_lem elements es apart e m (r ∷ reads) held =
      terms_held_lem elements es apart e m reads (terms_held k s elements es held r)
      ∙ ap (λ v. fold (λ v r. term_added k elements r e v) v reads) (targets_made (target_at s) (term_added k elements r) es held apart e m)

  -- what is stored at a target, and elsewhere
  pub stored_there : (elements held : Element → V) (es : List Iteration) → Distinct (map (target_at s) es) → (e : Iteration) → In e es
      → values_held k s elements es held (target_at s e) ≡ value_from k s elements e
  stored_there elements held es apart e m =
      terms_held_lem elements es apart e m s.reads (bases_held k s held es)
      ∙ ap (λ v. fold (λ v r. term_added k elements r e v) v s.reads) (targets_made (target_at s) (λ e _. coefficient_of k s.base) es held apart e m)

  -- from values that agree with a buffer the same value is computed
  pub values_agree : (elements : Element → V) (buffer : List V) (e : Iteration) → Agrees k.arrays k.outside elements buffer
      → ((r : ReadTerm) → In r s.reads → There k.arrays (element_at r.source e))
      → value_from k s elements e ≡ value_in k s buffer e
  values_agree elements buffer e agrees there = terms s.reads (coefficient_of k s.base) there
    where
      terms : (reads : List ReadTerm) (v : V) → ((r : ReadTerm) → In r reads → There k.arrays (element_at r.source e))
          → fold (λ v r. term_added k elements r e v) v reads ≡ fold (withTermOf k buffer e) v reads
      terms [] v there = refl
      terms (r ∷ reads) v there =
          terms reads (term_added k elements r e v) (λ x m. there x (inr m))
          ∙ ap (λ x. fold (withTermOf k buffer e) (k.plus v (k.times (coefficient_of k r.coefficient) x)) reads) (agrees (element_at r.source e) (there r (inl refl)))

  -- stored together, the elements are those after the statement
  pub agrees_together : (elements held : Element → V) (before after : Buffers V)
      → Distinct (map (target_at s) (iterations s.i s.j))
      → ((e : Iteration) → In e (iterations s.i s.j) → There k.arrays (target_at s e))
      → ((e : Iteration) → In e (iterations s.i s.j) → (r : ReadTerm) → In r s.reads → There k.arrays (element_at r.source e))
      → Agrees k.arrays k.outside elements before.elements → StoredTogether k s before after
      → Agrees k.arrays k.outside (all_stored s (values_held k s elements (iterations s.i s.j) held) elements (iterations s.i s.j)) after.elements
  agrees_together elements held before after apart targets reads agrees stored x at = ⊎_elim hit miss (found (target_at s) es x)
    where
      es : List Iteration
      es = iterations s.i s.j

      full : Element → V
      full = values_held k s elements es held

      hit : ((e : Iteration) × In e es × (x ≡ target_at s e)) → all_stored s full elements es x ≡ get_or after.elements (place_of k.arrays x.0 x.1 x.2) k.outside
      hit h =
          let e = h.0 in
          ap (all_stored s full elements es) h.2
          ∙ targets_made (target_at s) (λ e _. full (target_at s e)) es elements apart e h.1
          ∙ stored_there elements held es apart e h.1
          ∙ values_agree elements before.elements e agrees (reads e h.1)
          ∙ sym (stored.element e h.1)
          ∙ ap (λ (y : Element). get_or after.elements (place_of k.arrays y.0 y.1 y.2) k.outside) (sym h.2)

      miss : (In x (map (target_at s) es) → ⊥) → all_stored s full elements es x ≡ get_or after.elements (place_of k.arrays x.0 x.1 x.2) k.outside
      miss none =
          others_stay (target_at s) (λ e _. full (target_at s e)) es elements x none
          ∙ agrees x at ∙ sym (stored.other_elements (place_of k.arrays x.0 x.1 x.2) (λ m. none (placed m)))
        where
          placed : In (place_of k.arrays x.0 x.1 x.2) (targets_of k.arrays s) → In x (map (target_at s) es)
          placed m =
              let h = in_map (target_in k.arrays s) (place_of k.arrays x.0 x.1 x.2) es m in
              let y = target_at s h.0 in
              let t = place_alone k.arrays x.0 x.1 x.2 y.0 y.1 y.2 at (targets h.0 h.1) h.2 in
              let same : x ≡ y = λ i. (t.0 i, t.1 i, t.2 i) in
              rw same (in_mapped (target_at s) h.0 es h.1)
