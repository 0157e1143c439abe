use Rattle.std.proofs.Common.{map, refl, rules}
use Rattle.nest.specs.Views.{said}
use Rattle.sheet.specs.Lines.{statement_of}
use Rattle.sheet.proofs.Repeats.{repeated_times}
use Rattle.sheet.proofs.lines.statements_of.Goals as goal

pub returns : goal.returns
returns c = repeated_times _ _ _ _ _ _ c.times.ensures said (statement_of c.args.arrays.now) (λ p q s h k. search rules) (map said) refl (λ v vs. refl)
