-- What scatter and gather do, and when they refuse.
use Rattle.std.specs.Prelude.{◌≡◌, ℕ, ◌⊎◌, List, length, Ok, Err, Result, slice_index_or}
use Rattle.nest.specs.Terms.{Sheet}
use Rattle.layout.specs.Places.{total, IsElement, place_of}
use Rattle.sections.specs.declared.refusal.LayoutRefusal.{LayoutRefusal}
use Rattle.sections.specs.DealtNests.{DealtNest, IsFitted}
use Rattle.sections.specs.Refusals.{number}
use Rattle.sections.specs.Sections.{Deals, Fits, section_of}

-- every element has the same value in the buffer of all arrays and in the section buffer
abbrev pub SameElements : {T : Type 0} → Sheet → Deals → List T → List T → Type 0
SameElements {T} sheet deals arrays sections =
    (t x y : ℕ) (d : T) → IsElement sheet.arrays t x y
    → slice_index_or sections (section_of sheet.grid.rows deals t x y) d ≡ slice_index_or arrays (place_of sheet.arrays t x y) d

-- both buffers are as long as there are elements
abbrev pub Long : Sheet → ℕ → ℕ → Type 0
Long sheet arrays sections = (arrays ≡ total sheet.arrays) × (sections ≡ total sheet.arrays)

-- the refusal of a number is due: 7 if the maps do not fit the nest, else 8 if a buffer has another length
abbrev pub Due : Sheet → Deals → ℕ → ℕ → ℕ → Type 0
Due sheet deals arrays sections number =
    ((number ≡ 7) × (Fits sheet.grid sheet.arrays deals → ⊥))
    ⊎ ((number ≡ 8) × Fits sheet.grid sheet.arrays deals × (Long sheet arrays sections → ⊥))

-- elements are moved exactly where no refusal is due; elsewhere everything stays untouched
abbrev pub Answered : {A : Type 0} → Sheet → Deals → ℕ → ℕ → Type 0 → Type 0 → Result A LayoutRefusal → Type 0
Answered sheet deals arrays sections Moved Untouched (Ok _) = Fits sheet.grid sheet.arrays deals × Long sheet arrays sections × Moved
Answered sheet deals arrays sections Moved Untouched (Err e) = Due sheet deals arrays sections (number e) × Untouched

-- the nest with its deals is given exactly where no refusal is due
abbrev pub Prepared : DealtNest → ℕ → ℕ → Result DealtNest LayoutRefusal → Type 0
Prepared d arrays sections (Ok f) = (f ≡ d) × IsFitted d × Long d.nest arrays sections
Prepared d arrays sections (Err e) = Due d.nest d.deals arrays sections (number e)

-- no other arrays have these sections: what gather makes of them is the arrays that were scattered
abbrev pub ArraysBack : {T : Type 0} → Sheet → Deals → List T → List T → Type 0
ArraysBack {T} sheet deals arrays sections =
    (gathered : List T) → length gathered ≡ length arrays → SameElements sheet deals gathered sections → gathered ≡ arrays

-- no other sections have these arrays: what scatter makes of them is the sections that were gathered
abbrev pub SectionsBack : {T : Type 0} → Sheet → Deals → List T → List T → Type 0
SectionsBack {T} sheet deals arrays sections =
    (scattered : List T) → length scattered ≡ length sections → SameElements sheet deals arrays scattered → scattered ≡ sections
