use Rattle.std.proofs.Common.{sym, ◌∙◌, arith}
use Rattle.sections.specs.MapTables.{tabled}
use Rattle.sections.proofs.DealtPlaces.{array_few, is_element, on_board, few_boards, on_place, place_low}
use Rattle.sections.proofs.Lookups.{placed_at}
use Rattle.sections.proofs.dealt.Dealt.place.Goals as goal

pub overflow_mul-board : goal.overflow_mul-board
overflow_mul-board c =
    let row = placed_at (tabled c.in_ok-rows.rows.now) c.args.row c.place.result (c.in_ok-row_owner.row_owner, c.in_ok-row_owner.row_rank) c.place.ensures (sym c.ok.ensures.value ∙ c.in_ok-row_owner.was) in
    let column = placed_at (tabled c.in_ok-columns.columns.now) c.args.column c.place-2.result (c.in_ok-column_owner.column_owner, c.in_ok-column_owner.column_rank) c.place-2.ensures (sym c.ok-2.ensures.value ∙ c.in_ok-column_owner.was) in
    omega (arith, few_boards c.args.self.now c.args.array c.args.row c.args.column c.in_ok-rows.rows.now c.in_ok-columns.columns.now c.in_ok-rows.ensures c.in_ok-columns.ensures.1 c.in_ok-row_owner.row_owner c.in_ok-row_owner.row_rank c.in_ok-column_owner.column_owner c.in_ok-column_owner.column_rank row column)

pub overflow_add-board : goal.overflow_add-board
overflow_add-board c =
    let row = placed_at (tabled c.in_ok-rows.rows.now) c.args.row c.place.result (c.in_ok-row_owner.row_owner, c.in_ok-row_owner.row_rank) c.place.ensures (sym c.ok.ensures.value ∙ c.in_ok-row_owner.was) in
    let column = placed_at (tabled c.in_ok-columns.columns.now) c.args.column c.place-2.result (c.in_ok-column_owner.column_owner, c.in_ok-column_owner.column_rank) c.place-2.ensures (sym c.ok-2.ensures.value ∙ c.in_ok-column_owner.was) in
    omega (arith, few_boards c.args.self.now c.args.array c.args.row c.args.column c.in_ok-rows.rows.now c.in_ok-columns.columns.now c.in_ok-rows.ensures c.in_ok-columns.ensures.1 c.in_ok-row_owner.row_owner c.in_ok-row_owner.row_rank c.in_ok-column_owner.column_owner c.in_ok-column_owner.column_rank row column)

pub cell_of-cell-requires : goal.cell_of-cell-requires
cell_of-cell-requires c =
    let row = placed_at (tabled c.in_ok-rows.rows.now) c.args.row c.place.result (c.in_ok-row_owner.row_owner, c.in_ok-row_owner.row_rank) c.place.ensures (sym c.ok.ensures.value ∙ c.in_ok-row_owner.was) in
    let column = placed_at (tabled c.in_ok-columns.columns.now) c.args.column c.place-2.result (c.in_ok-column_owner.column_owner, c.in_ok-column_owner.column_rank) c.place-2.ensures (sym c.ok-2.ensures.value ∙ c.in_ok-column_owner.was) in
    (few_boards c.args.self.now c.args.array c.args.row c.args.column c.in_ok-rows.rows.now c.in_ok-columns.columns.now c.in_ok-rows.ensures c.in_ok-columns.ensures.1 c.in_ok-row_owner.row_owner c.in_ok-row_owner.row_rank c.in_ok-column_owner.column_owner c.in_ok-column_owner.column_rank row column, array_few c.args.self.now c.args.array c.in_ok-rows.ensures.0, c.args.self.now.start_room, place_low c.args.self.now c.args.array c.args.row c.args.column c.in_ok-rows.rows.now c.in_ok-columns.columns.now c.in_ok-rows.ensures c.in_ok-columns.ensures.1 c.in_ok-row_owner.row_owner c.in_ok-row_owner.row_rank c.in_ok-column_owner.column_owner c.in_ok-column_owner.column_rank row column c.share-width.result c.share-width.ensures)

pub returns : goal.returns
returns c =
    let row = placed_at (tabled c.in_ok-rows.rows.now) c.args.row c.place.result (c.in_ok-row_owner.row_owner, c.in_ok-row_owner.row_rank) c.place.ensures (sym c.ok.ensures.value ∙ c.in_ok-row_owner.was) in
    let column = placed_at (tabled c.in_ok-columns.columns.now) c.args.column c.place-2.result (c.in_ok-column_owner.column_owner, c.in_ok-column_owner.column_rank) c.place-2.ensures (sym c.ok-2.ensures.value ∙ c.in_ok-column_owner.was) in
    (is_element c.args.self.now c.args.array c.args.row c.args.column c.in_ok-rows.rows.now c.in_ok-columns.columns.now c.in_ok-rows.ensures c.in_ok-columns.ensures.1 c.in_ok-row_owner.row_owner c.in_ok-row_owner.row_rank c.in_ok-column_owner.column_owner c.in_ok-column_owner.column_rank row column, on_board c.args.self.now c.args.array c.args.row c.args.column c.in_ok-rows.rows.now c.in_ok-columns.columns.now c.in_ok-rows.ensures c.in_ok-columns.ensures.1 c.in_ok-row_owner.row_owner c.in_ok-row_owner.row_rank c.in_ok-column_owner.column_owner c.in_ok-column_owner.column_rank row column, c.cell_of-cell.ensures ∙ on_place c.args.self.now c.args.array c.args.row c.args.column c.in_ok-rows.rows.now c.in_ok-columns.columns.now c.in_ok-rows.ensures c.in_ok-columns.ensures.1 c.in_ok-row_owner.row_owner c.in_ok-row_owner.row_rank c.in_ok-column_owner.column_owner c.in_ok-column_owner.column_rank row column c.share-width.result c.share-width.ensures)
