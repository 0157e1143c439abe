-- Where the elements of all arrays lie in one buffer. Assumes nothing.
use Rattle.std.specs.Prelude.{◌≡◌, ℕ, zero, suc, ◌+◌, ◌-◌, ◌*◌, ◌<◌, ◌≤◌, List, [], ◌∷◌, slice_index_or}
use Rattle.nest.specs.Terms.{nowhere}
use Rattle.nest.specs.declared.terms.Array.{Array}

-- how many elements an array has
abbrev pub size_of : Array → ℕ
size_of a = a.rows * a.columns

-- how many elements all arrays have
abbrev pub total : List Array → ℕ
total [] = 0
total (a ∷ more) = size_of a + total more

-- array t, counted from 0, is there, and has row x and column y, counted from 1
abbrev pub IsElement : List Array → ℕ → ℕ → ℕ → Type 0
IsElement [] t x y = ⊥
IsElement (a ∷ more) zero x y = (1 ≤ x) × (x ≤ a.rows) × (1 ≤ y) × (y ≤ a.columns)
IsElement (a ∷ more) (suc t) x y = IsElement more t x y

-- where element (x, y) of array t lies: the arrays one after the other, each row by row.
-- Proofs elsewhere go by the laws below, so that this is the one place to change.
unfoldable pub place_of : List Array → ℕ → ℕ → ℕ → ℕ
place_of [] t x y = 0
place_of (a ∷ more) zero x y = (x - 1) * a.columns + (y - 1)
place_of (a ∷ more) (suc t) x y = size_of a + place_of more t x y

-- every element lies below the total
abbrev pub PlaceBelow : List Array → Type 0
PlaceBelow arrays = (t x y : ℕ) → IsElement arrays t x y → place_of arrays t x y < total arrays

-- two elements never share a place
abbrev pub PlaceAlone : List Array → Type 0
PlaceAlone arrays =
    (t x y u v w : ℕ) → IsElement arrays t x y → IsElement arrays u v w → place_of arrays t x y ≡ place_of arrays u v w
    → (t ≡ u) × (x ≡ v) × (y ≡ w)

-- every place below the total is an element's
abbrev pub PlaceTaken : List Array → Type 0
PlaceTaken arrays =
    (k : ℕ) → k < total arrays → (t : ℕ) × (x : ℕ) × (y : ℕ) × IsElement arrays t x y × (place_of arrays t x y ≡ k)

-- the three together: elements and places below the total match one to one
abbrev pub OnePlaceEach : List Array → Type 0
OnePlaceEach arrays = PlaceBelow arrays × PlaceAlone arrays × PlaceTaken arrays

-- where an array begins; only the code that finds places and its proof go by this
abbrev pub start_of : List Array → ℕ → ℕ
start_of [] t = 0
start_of (a ∷ more) zero = 0
start_of (a ∷ more) (suc t) = size_of a + start_of more t

-- an array that is not there has no rows and no columns
abbrev pub array_at : List Array → ℕ → Array
array_at arrays t = slice_index_or arrays t nowhere

-- rows and columns of every array are at most 32
abbrev pub Small : List Array → Type 0
Small arrays = (t : ℕ) → ((array_at arrays t).rows ≤ 32) × ((array_at arrays t).columns ≤ 32)
