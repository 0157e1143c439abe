use Rattle.std.proofs.Common.{vec_items}
use Rattle.sections.proofs.DealtMade.{rows_count, tables_startable}
use Rattle.sections.proofs.MapsFit.{maps_sound}
use Rattle.sections.proofs.NestRoom.{nest_room}
use Rattle.sections.proofs.dealt.Dealt.new.Goals as goal

pub part_starts-starts-requires : goal.part_starts-starts-requires
part_starts-starts-requires g c =
    let room = nest_room c.args.nest.now in
    let sound = maps_sound g.R.OwnerMap.meaning g.C.OwnerMap.meaning g.met.R.OwnerMap.sound g.met.C.OwnerMap.sound c.args.row_maps.now c.args.column_maps.now in
    tables_startable g.R.OwnerMap.meaning g.C.OwnerMap.meaning c.args.nest.now.grid (vec_items c.args.nest.now.arrays) c.args.row_maps.now c.args.column_maps.now c.if-not-maps_fit.ensures room
    c.tables_of-rows.result c.tables_of-columns.result c.tables_of-rows.ensures.same c.tables_of-columns.ensures.same c.grid-grid.result c.grid-grid.ensures sound

pub invariant_of-result : goal.invariant_of-result
invariant_of-result g c =
    let room = nest_room c.args.nest.now in
    let sound = maps_sound g.R.OwnerMap.meaning g.C.OwnerMap.meaning g.met.R.OwnerMap.sound g.met.C.OwnerMap.sound c.args.row_maps.now c.args.column_maps.now in
    let ready = tables_startable g.R.OwnerMap.meaning g.C.OwnerMap.meaning c.args.nest.now.grid (vec_items c.args.nest.now.arrays) c.args.row_maps.now c.args.column_maps.now c.if-not-maps_fit.ensures room c.tables_of-rows.result c.tables_of-columns.result c.tables_of-rows.ensures.same c.tables_of-columns.ensures.same c.grid-grid.result c.grid-grid.ensures sound in
    let count = rows_count g.R.OwnerMap.meaning g.C.OwnerMap.meaning c.args.nest.now.grid (vec_items c.args.nest.now.arrays) c.args.row_maps.now c.args.column_maps.now c.if-not-maps_fit.ensures room in
    record { few = count.1; row_room = c.tables_of-rows.ensures.room; column_room = c.tables_of-columns.ensures.room; start_room = c.part_starts-starts.ensures.room; boards = ready.0; over = ready.3; begun = c.part_starts-starts.ensures.begun; low = ready.4 }
