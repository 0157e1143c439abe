-- What holds of deals over a grid.
use Rattle.std.specs.Prelude.{◌≡◌, ℕ, ◌+◌, ◌*◌, ◌<◌, ◌≤◌, List, length}
use Rattle.nest.specs.declared.terms.Array.{Array}
use Rattle.nest.specs.declared.terms.Grid.{Grid}
use Rattle.layout.specs.Places.{IsElement}
use Rattle.owner_map.specs.Meaning.{Position}
use Rattle.sections.specs.Sections.{Deals, rows_of, columns_of, part_at, part_size}
use Rattle.sections.specs.Starts.{Begins}

-- array t is dealt out, and has row x and column y
abbrev pub DealtElement : Deals → ℕ → ℕ → ℕ → Type 0
DealtElement deals t x y = (t < length deals.rows) × Position (rows_of deals t) x × Position (columns_of deals t) y

-- the elements of these arrays are those that are dealt out
abbrev pub SameShape : List Array → Deals → Type 0
SameShape arrays deals = (t x y : ℕ) → (IsElement arrays t x y → DealtElement deals t x y) × (DealtElement deals t x y → IsElement arrays t x y)

-- every deal is over the rows or the columns of the grid
abbrev pub OverGrid : Grid → Deals → Type 0
OverGrid grid deals = (t : ℕ) → t < length deals.rows → ((rows_of deals t).boards ≡ grid.rows) × ((columns_of deals t).boards ≡ grid.columns)

-- board p is there, and so is array t
abbrev pub Part : Grid → Deals → ℕ → ℕ → Type 0
Part grid deals p t = (p < grid.rows * grid.columns) × (t < length deals.rows)

-- every part begins as a table says
abbrev pub PartsBegin : Grid → Deals → List ℕ → Type 0
PartsBegin grid deals starts = (p t : ℕ) → Part grid deals p t → Begins grid.rows deals starts p t

-- every part ends in a buffer of 4,096 places
abbrev pub PartsLow : Grid → Deals → Type 0
PartsLow grid deals = (p t : ℕ) → Part grid deals p t → part_at grid.rows deals p t + part_size grid.rows deals p t ≤ 4096

-- where the parts begin can be worked out: the deals are those of few arrays over a small grid, and every part is low
abbrev pub Startable : Grid → Deals → Type 0
Startable grid deals =
    (grid.rows * grid.columns ≤ 8) × (length deals.rows ≤ 4) × (length deals.columns ≡ length deals.rows) × OverGrid grid deals × PartsLow grid deals
