use Rattle.std.proofs.Common.{map, take, vec_items}
use Rattle.nest.specs.Views.{said}
use Rattle.compiler.proofs.StatementTotals.{Counted}
use Rattle.compiler.proofs.letter_totals.letters_of.Given as goal

abbrev pub invariant-loop-statement : goal.invariant-loop-statement
invariant-loop-statement l = Counted l.fitted.nest l.fitted.deals (map said (take l.statement-index l.statements)) (vec_items l.pairs) l.letters l.depth
