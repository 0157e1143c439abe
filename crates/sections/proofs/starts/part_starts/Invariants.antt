use Rattle.std.proofs.Common.{◌≡◌, map, length}
use Rattle.sections.specs.MapTables.{tabled}
use Rattle.sections.specs.Sections.{dealt, part_at}
use Rattle.sections.proofs.PartStarts.{BegunTo}
use Rattle.sections.proofs.starts.part_starts.Given as goal

abbrev pub invariant-loop-board : goal.invariant-loop-board
invariant-loop-board l =
    let deals = dealt (map tabled l.row_maps) (map tabled l.column_maps) in
    (length l.starts ≡ 32) × (l.next ≡ part_at l.grid.rows deals l.board 0) × BegunTo l.grid.rows deals l.starts l.board 0

abbrev pub invariant-loop-array : goal.invariant-loop-array
invariant-loop-array l =
    let deals = dealt (map tabled l.row_maps) (map tabled l.column_maps) in
    (length l.starts ≡ 32) × (l.next ≡ part_at l.grid.rows deals l.board l.array) × BegunTo l.grid.rows deals l.starts l.board l.array
