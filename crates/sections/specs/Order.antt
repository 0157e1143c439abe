-- All elements in the order of the section buffer, as one list.
use Rattle.std.specs.Prelude.{◌≡◌, ℕ, ◌*◌, ◌/◌, ◌%◌, List, map, length, slice_index_or}
use Rattle.std.specs.List.{range_with_len, flat_map}
use Rattle.std.specs.Option.{unwrap_or}
use Rattle.nest.specs.declared.terms.Array.{Array}
use Rattle.nest.specs.declared.terms.Grid.{Grid}
use Rattle.layout.specs.Places.{total, IsElement}
use Rattle.owner_map.specs.Meaning.{Deal, position, share}
use Rattle.sections.specs.Sections.{Deals, rows_of, columns_of, section_of}

-- an element: its array, its row, its column
abbrev pub Element : Type 0
Element = ℕ × ℕ × ℕ

-- the positions that a board owns, by rank
abbrev pub owned_by : Deal → ℕ → List ℕ
owned_by d b = map (λ r. unwrap_or (position d b r) 0) (range_with_len 0 (share d b))

-- the elements of row x of array t in the columns that grid column b owns
abbrev pub row_list : Deal → ℕ → ℕ → ℕ → List Element
row_list columns b t x = map (λ y. (t, x, y)) (owned_by columns b)

-- the elements of array t on board p: row after row of those that it owns, each with the columns that it owns
abbrev pub part_list : ℕ → Deals → ℕ → ℕ → List Element
part_list q deals p t = flat_map (row_list (columns_of deals t) (p / q) t) (owned_by (rows_of deals t) (p % q))

-- the section of board p: its part of each array
abbrev pub section_list : ℕ → Deals → ℕ → List Element
section_list q deals p = flat_map (part_list q deals p) (range_with_len 0 (length deals.rows))

-- the sections of all boards
abbrev pub section_order : Grid → Deals → List Element
section_order grid deals = flat_map (section_list grid.rows deals) (range_with_len 0 (grid.rows * grid.columns))

-- the place of an element is its index in this list, which has as many elements as there are
abbrev pub PlaceIsIndex : Grid → List Array → Deals → Type 0
PlaceIsIndex grid arrays deals =
    (length (section_order grid deals) ≡ total arrays)
    × ((t x y : ℕ) (d : Element) → IsElement arrays t x y → slice_index_or (section_order grid deals) (section_of grid.rows deals t x y) d ≡ (t, x, y))
