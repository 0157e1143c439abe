use Rattle.std.proofs.Common.{vec_items, sum_by, ap, ◌∙◌, arith}
use Rattle.std.proofs.ByRecursion.{sum_by_le}
use Rattle.nest.specs.Nests.{shown}
use Rattle.nest.specs.Terms.{Sheet}
use Rattle.sections.specs.Sections.{Deals}
use Rattle.compiler.specs.declared.parts.BoardProgram.{BoardProgram}
use Rattle.compiler.specs.Compiled.{program_of}
use Rattle.compiler.proofs.Compiling.{same_program, few_boards, steps_of_all, boards_kept, tables_all}
use Rattle.compiler.proofs.KeptStatements.{nest_kept_as}
use Rattle.compiler.proofs.compile.program_of.Goals as goal

pub all_steps-steps-requires : goal.all_steps-steps-requires
all_steps-steps-requires c =
    let sheet : Sheet = c.args.fitted.now.nest in
    let boards = c.in_ok-boards.ensures in
    let few = few_boards sheet c.args.fitted.now.deals (vec_items c.in_ok-boards.boards) boards.whole (nest_kept_as c.nest.result.now sheet c.nest.ensures.nest) in
    omega (arith, few, sum_by_le (λ (b : BoardProgram). b.steps) 871200000 (vec_items c.in_ok-boards.boards) boards.small, ap (sum_by (λ (b : BoardProgram). b.steps)) c.as_slice.ensures.value)

pub invariant_of-result : goal.invariant_of-result
invariant_of-result c =
    let sheet : Sheet = c.args.fitted.now.nest in
    let deals : Deals = c.args.fitted.now.deals in
    let copy : Sheet = shown c.in_ok-nest.nest in
    let same = c.in_ok-nest.ensures.cases ∙ c.nest.ensures.nest in
    record {
      kept = boards_kept sheet deals (vec_items c.in_ok-boards.boards) c.in_ok-boards.ensures.whole (nest_kept_as c.nest.result.now sheet c.nest.ensures.nest) copy same;
      tables = tables_all sheet deals copy same (vec_items c.in_ok-totals.totals.pairs) c.in_ok-totals.ensures.pairs;
    }

pub returns : goal.returns
returns c =
    let sheet : Sheet = c.args.fitted.now.nest in
    let deals : Deals = c.args.fitted.now.deals in
    let boards = c.in_ok-boards.ensures.whole in
    let totals = c.in_ok-totals.ensures in
    let steps = c.all_steps-steps.ensures ∙ ap (sum_by (λ (b : BoardProgram). b.steps)) c.as_slice.ensures.value ∙ steps_of_all sheet deals (vec_items c.in_ok-boards.boards) boards in
    same_program _ (program_of sheet deals) (c.in_ok-nest.ensures.cases ∙ c.nest.ensures.nest) boards totals.pairs steps totals.letters totals.depth
