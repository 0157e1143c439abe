use Rattle.std.proofs.Common.{◌≡◌, ◌<◌, length, ap, ◌∙◌, rules}
use Rattle.nest.proofs.Keeps.{nest_parts, grid_parts_lem}
use Rattle.nest.specs.Terms.{Sheet}
use Rattle.nest.specs.Views.{said}
use Rattle.sections.specs.MapTables.{tabled}
use Rattle.sections.specs.Sections.{rows_of, columns_of}
use Rattle.dealing.specs.declared.dimension.Dimension.TheVariants.{Rows, Columns}
use Rattle.compiler.proofs.KeptStatements.{nest_kept_as}
use Rattle.compiler.proofs.OwnerLookups.{array_there, stays, tables_tell}
use Rattle.compiler.proofs.owners.owners_of.Goals as goal

pub unwrap-row_map-requires : goal.unwrap-row_map-requires
unwrap-row_map-requires c =
    let there : c.args.access.array < length c.args.fitted.now.nest.arrays =
    array_there c.args.fitted.now c.row_map.ensures.fitted (said c.args.statement.now) c.requires.some c.args.access c.requires.reaches in
    search rules

pub new-requires : goal.new-requires
new-requires c =
    let is : tabled c.unwrap-row_map.result.now ≡ rows_of c.args.fitted.now.deals c.args.access.array = search rules in
    stays c.args.fitted.now c.row_map.ensures.fitted (said c.args.statement.now) c.requires.some c.args.access c.requires.reaches Rows _ is _ c.pick-row_range.ensures

pub new-requires-2 : goal.new-requires-2
new-requires-2 c =
    let is : tabled c.unwrap-column_map.result.now ≡ columns_of c.args.fitted.now.deals c.args.access.array = search rules in
    stays c.args.fitted.now c.row_map.ensures.fitted (said c.args.statement.now) c.requires.some c.args.access c.requires.reaches Columns _ is _ c.pick-column_range.ensures

pub returns : goal.returns
returns c =
    let n : Sheet = c.args.fitted.now.nest in
    let by_rows : tabled c.unwrap-row_map.result.now ≡ rows_of c.args.fitted.now.deals c.args.access.array = search rules in
    let by_columns : tabled c.unwrap-column_map.result.now ≡ columns_of c.args.fitted.now.deals c.args.access.array = search rules in
    let room = (grid_parts_lem n.grid (nest_parts n.grid n.arrays n.sweeps n.statements (nest_kept_as c.nest.result.now n c.nest.ensures.nest)).grid).boards in
    tables_tell c.args.fitted.now c.row_map.ensures.fitted (said c.args.statement.now) c.requires.some c.args.access c.requires.reaches room _ _ by_rows by_columns _ _ c.pick-row_range.ensures c.pick-column_range.ensures
    (record { rows = c.new.result; columns = c.new-2.result; grid_rows = c.grid.result.rows }) c.new.ensures c.new-2.ensures (ap (λ g. g.rows) c.grid.ensures ∙ ap (λ (m : Sheet). m.grid.rows) c.nest.ensures.nest)
