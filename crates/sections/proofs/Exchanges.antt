-- What follows from an answer of scatter and gather, and how they undo each other.
use Rattle.std.proofs.Common.{◌≡◌, ℕ, List, length, get_or, IfOk, Ok, Err, Result, sym, ap, ◌∙◌, inl, inr, ⊎_elim, arith}
use Rattle.std.proofs.lemmas.List.{same_lists}
use Rattle.nest.specs.Terms.{Sheet}
use Rattle.layout.specs.Places.{total}
use Rattle.layout.proofs.PlaceLaws.{place_taken}
use Rattle.sections.specs.declared.refusal.LayoutRefusal.{LayoutRefusal}
use Rattle.sections.specs.Exchange.{SameElements, Long, Due, Answered, ArraysBack, SectionsBack}
use Rattle.sections.specs.Refusals.{number}
use Rattle.sections.specs.Sections.{EachSound, Deals, Fits}
use Rattle.sections.proofs.SectionPlaces.{section_taken}

turned : (sheet : Sheet) (deals : Deals) (n m k : ℕ) → Due sheet deals n m k → Due sheet deals m n k
turned sheet deals n m k due = ⊎_elim inl (λ d. inr (d.0, d.1, λ l. d.2 (l.1, l.0))) due

module _ {A : Type 0} (sheet : Sheet) (deals : Deals) (n m : ℕ) (Moved Later Same : Type 0) where
  -- the same answer, in other words
  pub answered_like : (Moved → Later) → (r : Result A LayoutRefusal) → Answered sheet deals n m Moved Same r → Answered sheet deals n m Later Same r
  answered_like turn (Ok a) p = (p.0, p.1, turn p.2)
  answered_like turn (Err e) p = p

  -- and with the two buffers named the other way round
  pub answered_turned : (Moved → Later) → (r : Result A LayoutRefusal) → Answered sheet deals n m Moved Same r → Answered sheet deals m n Later Same r
  answered_turned turn (Ok a) p = (p.0, (p.1.1, p.1.0), turn p.2)
  answered_turned turn (Err e) p = (turned sheet deals n m (number e) p.0, p.1)

  -- what follows wherever elements were moved
  pub made_from : (Fits sheet.grid sheet.arrays deals → Long sheet n m → Moved → Later) → (r : Result A LayoutRefusal) → Answered sheet deals n m Moved Same r → IfOk r (λ _. Later)
  made_from law (Ok a) p = law p.0 p.1 p.2
  made_from law (Err e) p = tt

module _ {T : Type 0} (sheet : Sheet) (deals : Deals) (arrays sections : List T) (same : SameElements sheet deals arrays sections) where
  pub arrays_back : length arrays ≡ total sheet.arrays → ArraysBack sheet deals arrays sections
  arrays_back long others l so =
      same_lists others arrays l (λ k d h. let at = place_taken sheet.arrays k (omega arith) in
      ap (λ j. get_or others j d) (sym at.4) ∙ sym (so at.0 at.1 at.2 d at.3) ∙ same at.0 at.1 at.2 d at.3 ∙ ap (λ j. get_or arrays j d) at.4)

  pub sections_back : Fits sheet.grid sheet.arrays deals → EachSound deals → length sections ≡ total sheet.arrays → SectionsBack sheet deals arrays sections
  sections_back fit sound long others l so =
      same_lists others sections l (λ k d h. let at = section_taken sheet.grid sheet.arrays deals fit sound k (omega arith) in
      ap (λ j. get_or others j d) (sym at.4) ∙ so at.0 at.1 at.2 d at.3 ∙ sym (same at.0 at.1 at.2 d at.3) ∙ ap (λ j. get_or sections j d) at.4)
