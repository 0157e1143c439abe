-- The arrays of a nest can be dealt. Assumes nothing.
use Rattle.std.proofs.Common.{◌≡◌, true}
use Rattle.nest.specs.declared.terms.Grid.{Grid}
use Rattle.nest.specs.declared.terms.Array.{Array}
use Rattle.nest.specs.declared.terms.MapWord.{MapWord}
use Rattle.nest.specs.declared.terms.MapWord.TheVariants.{One, Block, Cyclic, CyclicBy}
use Rattle.nest.specs.Sound.{grid_kept, map_kept, array_kept}
use Rattle.nest.proofs.Keeps.{bounds, grid_parts_lem, array_parts}
use Rattle.owner_map.specs.Rules.{Run}
use Rattle.dealing.specs.declared.dimension.Dimension.{Dimension}
use Rattle.dealing.specs.declared.dimension.Dimension.TheVariants.{Rows, Columns}
use Rattle.dealing.specs.Words.{make_of, Dealable}

run_kept : (w : MapWord) → map_kept w ≡ true → Run (make_of w)
run_kept One k = tt
run_kept Block k = tt
run_kept Cyclic k = tt
run_kept (CyclicBy n) k = bounds 1 32 n k

pub dealable : (d : Dimension) (g : Grid) (a : Array) → grid_kept g ≡ true → array_kept a ≡ true → Dealable d g a
dealable Rows g a gk ak =
    let b = (grid_parts_lem g gk).rows in
    let x = array_parts a ak in
    ((b.0, b.1, x.rows.0, x.rows.1), run_kept a.row_map x.by_rows)
dealable Columns g a gk ak =
    let b = (grid_parts_lem g gk).columns in
    let x = array_parts a ak in
    ((b.0, b.1, x.columns.0, x.columns.1), run_kept a.column_map x.by_columns)
