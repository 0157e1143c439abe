-- Where elements lie in the section buffer. It holds one section for each board in turn; a section holds the
-- board's part of each array in turn, and a part goes by row rank, within one row rank by column rank.
-- Assumes nothing.
use Rattle.std.specs.Prelude.{◌≡◌, ℕ, ◌+◌, ◌*◌, ◌/◌, ◌%◌, ◌<◌, List, [], length, slice_index_or}
use Rattle.nest.specs.declared.terms.Array.{Array}
use Rattle.nest.specs.declared.terms.Grid.{Grid}
use Rattle.layout.specs.Places.{array_at}
use Rattle.owner_map.specs.Meaning.{Deal, Sound, extent, owner, rank, share, sum_over}

-- how the arrays of a nest are dealt out: for each its rows over the grid's rows, its columns over the grid's columns
pub record Deals : Type 0 where
  pub rows : List Deal
  pub columns : List Deal

-- an array that is not there is dealt to nobody
abbrev pub undealt : Deal
undealt = record { boards = 0; owners = [] }

-- how the rows of array t are dealt, and its columns
abbrev pub rows_of : Deals → ℕ → Deal
rows_of deals t = slice_index_or deals.rows t undealt

abbrev pub columns_of : Deals → ℕ → Deal
columns_of deals t = slice_index_or deals.columns t undealt

-- a deal of some dimension has this board count and this length
abbrev pub DealsOut : Deal → ℕ → ℕ → Type 0
DealsOut d boards size = (d.boards ≡ boards) × (extent d ≡ size)

-- the deals fit a nest: as many as arrays, and each has the grid's board count and the array's length
abbrev pub Fits : Grid → List Array → Deals → Type 0
Fits grid arrays deals =
    (length deals.rows ≡ length arrays) × (length deals.columns ≡ length arrays)
    × ((t : ℕ) → t < length arrays → DealsOut (rows_of deals t) grid.rows (array_at arrays t).rows × DealsOut (columns_of deals t) grid.columns (array_at arrays t).columns)

-- each deal is one that a map may mean
abbrev pub EachSound : Deals → Type 0
EachSound deals =
    ((t : ℕ) → t < length deals.rows → Sound (rows_of deals t)) × ((t : ℕ) → t < length deals.columns → Sound (columns_of deals t))

-- the board of element (x, y) of array t, on a grid of q rows
abbrev pub board_of : ℕ → Deals → ℕ → ℕ → ℕ → ℕ
board_of q deals t x y = owner (rows_of deals t) x + q * owner (columns_of deals t) y

-- how many elements of array t board p has: its row in the grid is p % q, its column p / q
abbrev pub part_size : ℕ → Deals → ℕ → ℕ → ℕ
part_size q deals p t = share (rows_of deals t) (p % q) * share (columns_of deals t) (p / q)

-- where array t begins in the section of board p: after the elements of the arrays before it
abbrev pub part_start : ℕ → Deals → ℕ → ℕ → ℕ
part_start q deals p t = sum_over t (part_size q deals p)

-- how many elements board p has of all arrays
abbrev pub section_size : ℕ → Deals → ℕ → ℕ
section_size q deals p = part_start q deals p (length deals.rows)

-- where the section of board p begins: after those of the boards before it
abbrev pub section_start : ℕ → Deals → ℕ → ℕ
section_start q deals p = sum_over p (section_size q deals)

-- where element (x, y) lies in its board's part of array t: row rank by row rank, each as long as the board's share of the columns
abbrev pub cell_of : Deals → ℕ → ℕ → ℕ → ℕ
cell_of deals t x y = rank (rows_of deals t) x * share (columns_of deals t) (owner (columns_of deals t) y) + rank (columns_of deals t) y

-- where array t of board p begins in the section buffer
abbrev pub part_at : ℕ → Deals → ℕ → ℕ → ℕ
part_at q deals p t = section_start q deals p + part_start q deals p t

-- where element (x, y) of array t lies in the section buffer.
-- Proofs elsewhere go by the laws of SectionLaws, so that this is the one place to change.
unfoldable pub section_of : ℕ → Deals → ℕ → ℕ → ℕ → ℕ
section_of q deals t x y = part_at q deals (board_of q deals t x y) t + cell_of deals t x y

-- the deals of row maps and column maps
abbrev pub dealt : List Deal → List Deal → Deals
dealt rows columns = record { rows = rows; columns = columns }
