-- The table of starts, filled board by board and array by array.
use Rattle.std.proofs.Common.{ℕ, suc, ◌+◌, ◌*◌, ◌<◌, ◌≤◌, List, length, arith}
use Rattle.nest.specs.declared.terms.Array.{Array}
use Rattle.nest.specs.declared.terms.Grid.{Grid}
use Rattle.layout.specs.Places.{total}
use Rattle.owner_map.specs.Meaning.{sum_over}
use Rattle.sections.specs.Sections.{EachSound, Deals, Fits, part_at, part_size, part_start, section_size, section_start}
use Rattle.sections.specs.Starts.{Begins}
use Rattle.sections.proofs.SectionPlaces.{sections_total}
use Rattle.sections.proofs.Sums.{sum_grows}

-- the table is right for all boards below p, and for the arrays below t on board p
abbrev pub BegunTo : ℕ → Deals → List ℕ → ℕ → ℕ → Type 0
BegunTo q deals starts p t =
    ((r u : ℕ) → r < p → u < length deals.rows → Begins q deals starts r u) × ((u : ℕ) → u < t → Begins q deals starts p u)

-- the end of a part is no further than the number of all elements
pub part_room : (grid : Grid) (arrays : List Array) (deals : Deals) (fit : Fits grid arrays deals) (sound : EachSound deals) (p t : ℕ) → p < grid.rows * grid.columns → t < length deals.rows
    → part_at grid.rows deals p t + part_size grid.rows deals p t ≤ total arrays
part_room grid arrays deals fit sound p t on l =
    let q : ℕ = grid.rows in
    let a : part_start q deals p (suc t) ≤ section_size q deals p = sum_grows (part_size q deals p) (suc t) (length deals.rows) (omega arith) in
    let b : section_start q deals (suc p) ≤ sum_over (q * grid.columns) (section_size q deals) = sum_grows (section_size q deals) (suc p) (q * grid.columns) (omega arith) in
    omega (arith, sections_total grid arrays deals fit sound)
