-- What an exact answer on a sheet means for its bytes and for its nest. Assumes nothing.
use Rattle.std.proofs.Common.{◌≡◌, ℕ, false, List, IfOk, IfErr, Ok, Err, Result, sym, refl}
use Rattle.tokens.specs.Texts.{Read, got, refused as stopped}
use Rattle.nest.specs.declared.fault.SheetFault.{SheetFault}
use Rattle.sheet.specs.Verdicts.{fine}
use Rattle.nest.specs.Faults.{sheet_told}
use Rattle.sheet.specs.Answered.{lost, sheet_verdict}
use Rattle.sheet.specs.Lines.{lines_of, verdict, start, verdict_on}
use Rattle.nest.specs.Terms.{Sheet}
use Rattle.nest.specs.Inside.{StaysInside}
use Rattle.sheet.specs.SheetLaws.{WholeLines, FirstFault}
use Rattle.sheet.proofs.Kept.{sheet_kept}
use Rattle.nest.proofs.StaysInside.{kept_inside}
use Rattle.sheet.proofs.SheetLaw.{refusal_law, accepted_law}

accepted_inside : (bytes : List ℕ) (sheet : Sheet) (o : Read Sheet) → lines_of (start bytes) ≡ o → verdict o ≡ fine sheet → StaysInside sheet
accepted_inside bytes sheet (got s u) is e = let same : lines_of (start bytes) ≡ got sheet u = cc in kept_inside sheet (sheet_kept (start bytes) sheet u same)
accepted_inside bytes sheet (stopped number l b) is e = absurd (cc)

module _ {V : Type 0} (view : V → Sheet) (bytes : List ℕ) where
  abbrev Answers : Result V SheetFault → Type 0
  Answers r = lost r ≡ false → sheet_verdict view r ≡ verdict_on bytes

  pub answer_inside : (r : Result V SheetFault) → Answers r → IfOk r (λ v. StaysInside (view v))
  answer_inside (Ok v) h = accepted_inside bytes (view v) (lines_of (start bytes)) refl (sym (h refl))
  answer_inside (Err f) h = tt

  pub answer_lines : (r : Result V SheetFault) → Answers r → IfOk r (λ _. (n : ℕ) × WholeLines n bytes)
  answer_lines (Ok v) h = accepted_law bytes (view v) (sym (h refl))
  answer_lines (Err f) h = tt

  pub answer_fault : (r : Result V SheetFault) → Answers r → lost r ≡ false → IfErr r (λ f. FirstFault bytes (sheet_told f).number (sheet_told f).line (sheet_told f).byte)
  answer_fault (Ok v) h e = tt
  answer_fault (Err f) h e = refusal_law bytes _ _ _ (sym (h e))
