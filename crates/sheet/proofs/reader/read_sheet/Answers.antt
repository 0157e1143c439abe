use Rattle.std.proofs.Common.{◌≡◌, false, Ok, sym, refl, ap, ◌∙◌, rules}
use Rattle.tokens.specs.Views.{before}
use Rattle.sheet.specs.Verdicts.{fine}
use Rattle.sheet.specs.Answered.{lost, sheet_verdict}
use Rattle.sheet.specs.Lines.{lines_of, verdict, start, verdict_on}
use Rattle.sheet.specs.Parted.{parted}
use Rattle.nest.specs.Nests.{shown}
use Rattle.sheet.proofs.Kept.{sheet_kept}
use Rattle.sheet.proofs.Outcomes.{answer_inside, answer_lines, answer_fault}
use Rattle.sheet.proofs.reader.read_sheet.Goals as goal

pub invariant_of-result : goal.invariant_of-result
invariant_of-result c = record {
  kept = sheet_kept (start c.args.bytes.now) (parted c.in_ok-grid.field-0) (before c.parts_of.new.cursor)
      (sym (c.in_ok-grid.ensures refl ∙ ap lines_of c.new-cursor.ensures));
}

pub returns-in_err-grid : goal.returns-in_err-grid
returns-in_err-grid c =
    let bytes = c.args.bytes.now in
    let r = c.from_residual.result in
    let exact : lost r ≡ false → sheet_verdict shown r ≡ verdict_on bytes = search rules in
    record { answer = exact; inside = answer_inside shown bytes r exact; lines = answer_lines shown bytes r exact; first_fault = answer_fault shown bytes r exact }

pub returns : goal.returns
returns c =
    let bytes = c.args.bytes.now in
    let parts = c.in_ok-grid.field-0 in
    let exact : fine (parted parts) ≡ verdict_on bytes = ap verdict (c.in_ok-grid.ensures refl ∙ ap lines_of c.new-cursor.ensures) in
    record { answer = λ _. exact; inside = answer_inside parted bytes (Ok parts) (λ _. exact); lines = answer_lines parted bytes (Ok parts) (λ _. exact); first_fault = λ _. tt }
