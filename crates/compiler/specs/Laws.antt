-- What the orders of a nest come to, in the words of iterations and owners. Assumes nothing.
use Rattle.std.specs.Prelude.{◌≡◌, ℕ, ◌<◌, ◌≢◌, length, filter}
use Rattle.nest.specs.Terms.{Said, Sheet}
use Rattle.nest.specs.declared.terms.ReadTerm.{ReadTerm}
use Rattle.owner_map.specs.Meaning.{Sound}
use Rattle.sections.specs.Sections.{Deals, Fits, rows_of, columns_of}
use Rattle.sequential.specs.Iterations.{values_of, iterations}
use Rattle.sequential.specs.Laws.{In}
use Rattle.sequential.specs.declared.iteration.Iteration.{Iteration}
use Rattle.compiler.specs.declared.order.Task.{Task}
use Rattle.compiler.specs.declared.order.Task.TheVariants.{Ship, Add}
use Rattle.compiler.specs.Spans.{seat, span_of, span_values, owns_value}
use Rattle.compiler.specs.Orders.{tasks_of, i_owning, j_owning}
use Rattle.compiler.specs.Cells.{present, board_at, takes_part, parts_of, shipped_to, taken_from}
use Rattle.compiler.specs.Totals.{boards_of, steps_of}

-- the deals of maps: each has 1 to 8 boards and 1 to 32 positions, all owned
abbrev pub AllSound : Deals → Type 0
AllSound deals = (t : ℕ) → t < length deals.rows → t < length deals.columns → Sound (rows_of deals t) × Sound (columns_of deals t)

-- of a board's spans for a task of a statement: the loop values, idle ones dropped, are the loop range filtered by ownership, in order
abbrev pub SpansAreOwnedValues : Sheet → Deals → Type 0
SpansAreOwnedValues n deals =
    (p : ℕ) (s : Said) (t : Task) → p < boards_of n.grid → In s n.statements → In t (tasks_of s)
    → (present (span_values (seat n.grid.rows deals p) s.i (span_of (seat n.grid.rows deals p) (i_owning s t) s.i))
    ≡ filter (owns_value (seat n.grid.rows deals p) (i_owning s t)) (values_of s.i))
    × (present (span_values (seat n.grid.rows deals p) s.j (span_of (seat n.grid.rows deals p) (j_owning s t) s.j))
    ≡ filter (owns_value (seat n.grid.rows deals p) (j_owning s t)) (values_of s.j))

-- a board comes to its part of a task in iteration order, leaving out nothing and doing nothing twice: its parts are all
-- iterations filtered by whose part it is. So a base, an add and a store of each iteration stand on the owner of its target
-- alone, and a ship on the owner of the element alone, where the target is another's
abbrev pub PartsAreIterations : Sheet → Deals → Type 0
PartsAreIterations n deals =
    (p : ℕ) (s : Said) (t : Task) → p < boards_of n.grid → In s n.statements → In t (tasks_of s)
    → parts_of (seat n.grid.rows deals p) s t ≡ filter (takes_part (seat n.grid.rows deals p) s t) (iterations s.i s.j)

-- the owner of a target, and of the element of a read, is a board of the grid
abbrev pub OwnersAreBoards : Sheet → Deals → Type 0
OwnersAreBoards n deals =
    (s : Said) (e : Iteration) → In s n.statements → In e (iterations s.i s.j)
    → (board_at (seat n.grid.rows deals 0) s.put e < boards_of n.grid)
    × ((r : ReadTerm) → In r s.reads → board_at (seat n.grid.rows deals 0) r.source e < boards_of n.grid)

-- what board p ships to board q for a read is what q takes from p for it: one list of iterations
abbrev pub ShippedIsTaken : Sheet → Deals → Type 0
ShippedIsTaken n deals =
    (p q : ℕ) (s : Said) (r : ReadTerm) → p < boards_of n.grid → q < boards_of n.grid → p ≢ q → In s n.statements → In r s.reads
    → shipped_to (seat n.grid.rows deals p) s (Ship r) q ≡ taken_from (seat n.grid.rows deals q) s (Add r) r.source p

-- the number of steps does not depend on how the arrays are dealt out
abbrev pub StepsWhateverTheMaps : Sheet → Deals → Type 0
StepsWhateverTheMaps n deals = (others : Deals) → Fits n.grid n.arrays others → AllSound others → steps_of n others ≡ steps_of n deals

-- all of these
pub record OrdersCoverTheNest (n : Sheet) (deals : Deals) : Type 0 where
  pub spans : SpansAreOwnedValues n deals
  pub parts : PartsAreIterations n deals
  pub owners : OwnersAreBoards n deals
  pub shipped : ShippedIsTaken n deals
  pub steps : StepsWhateverTheMaps n deals
