use Rattle.std.proofs.Common.{refl, rules}
use Rattle.sheet.specs.Forms.{array_form}
use Rattle.sheet.specs.Lines.{line_by}
use Rattle.sheet.specs.Verdicts.{array_of}
use Rattle.sheet.proofs.Repeats.{repeated_times}
use Rattle.sheet.proofs.lines.array_lines.Goals as goal

pub returns : goal.returns
returns c = repeated_times _ _ _ _ _ _ c.times.ensures (λ v. v) (line_by array_form array_of) (λ p q s h k. search rules) (λ vs. vs) refl (λ v vs. refl)
