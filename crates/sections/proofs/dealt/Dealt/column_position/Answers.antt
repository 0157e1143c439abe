use Rattle.std.proofs.Common.{sym, ap, ◌∙◌}
use Rattle.owner_map.specs.Meaning.{position}
use Rattle.sections.specs.MapTables.{tabled}
use Rattle.sections.proofs.Lookups.{refused_board}
use Rattle.sections.proofs.dealt.Dealt.column_position.Goals as goal

pub returns-in_err-ok : goal.returns-in_err-ok
returns-in_err-ok c =
    let m = c.in_ok-column_map.field-0.now in
    c.from_residual-in_err-ok.ensures ∙ sym (refused_board (tabled m) m.sound c.args.grid_column c.args.rank c.position.result c.position.ensures (sym c.ok.ensures.value ∙ c.in_err-ok.was)) ∙ ap (λ d. position d c.args.grid_column c.args.rank) c.in_ok-column_map.ensures.1
