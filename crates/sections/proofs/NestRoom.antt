-- How large a nest can be.
use Rattle.std.proofs.Common.{◌≡◌, ℕ, ◌*◌, ◌≤◌, true, List, length, vec_items, arith}
use Rattle.nest.specs.declared.terms.Array.{Array}
use Rattle.nest.specs.declared.terms.Grid.{Grid}
use Rattle.nest.specs.declared.nest.Nest.{Nest}
use Rattle.nest.specs.Terms.{Said}
use Rattle.nest.specs.Views.{said_all}
use Rattle.nest.specs.Sound.{nest_kept}
use Rattle.nest.proofs.Keeps.{grid_parts_lem, nest_parts}
use Rattle.layout.specs.Places.{total}
use Rattle.layout.proofs.Starts.{kept_small, start_all, start_small}

-- one to four arrays, at most eight boards and 4,096 elements
pub record Room (grid : Grid) (arrays : List Array) : Type 0 where
  pub some : 1 ≤ length arrays
  pub few : length arrays ≤ 4
  pub boards : grid.rows * grid.columns ≤ 8
  pub elements : total arrays ≤ 4096

kept_room : (grid : Grid) (arrays : List Array) (sweeps : ℕ) (statements : List Said) → nest_kept grid arrays sweeps statements ≡ true → Room grid arrays
kept_room grid arrays sweeps statements k =
    let small = kept_small grid arrays sweeps statements k in
    record {
      some = (nest_parts grid arrays sweeps statements k).some_arrays.0;
      few = small.0;
      boards = (grid_parts_lem grid (nest_parts grid arrays sweeps statements k).grid).boards;
      elements = omega (arith, small.0, start_all arrays, start_small arrays small.1 (length arrays));
    }

pub nest_room : (n : Nest) → Room n.grid (vec_items n.arrays)
nest_room n = kept_room n.grid (vec_items n.arrays) n.sweeps (said_all n.statements) n.kept
