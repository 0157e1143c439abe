-- The element at a place in the arrays.
use Rattle.std.proofs.Common.{◌≡◌, ℕ, zero, suc, ◌+◌, ◌-◌, ◌*◌, ◌/◌, ◌%◌, ◌<◌, ◌≤◌, List, [], ◌∷◌, length, mod-lt, mul-zero, div-add-mod', arith}
use Rattle.std.proofs.lemmas.Nat.{div_below}
use Rattle.nest.specs.declared.terms.Array.{Array}
use Rattle.layout.specs.Places.{size_of, total, IsElement, place_of, start_of, array_at}
use Rattle.layout.proofs.Starts.{element_there, place_is}

-- an array ends at the total or before
pub array_ends : (arrays : List Array) (t : ℕ) → t < length arrays → start_of arrays t + size_of (array_at arrays t) ≤ total arrays
array_ends [] t h = absurd (omega arith)
array_ends (a ∷ more) zero h = omega arith
array_ends (a ∷ more) (suc t) h = omega (arith, array_ends more t (omega arith))

columns_some : (rows columns k : ℕ) → k < rows * columns → 0 < columns
columns_some rows zero k h = absurd (omega (arith, mul-zero rows))
columns_some rows (suc columns) k h = omega arith

-- the element that stands this far behind the start of an array
pub element_found : (arrays : List Array) (t left place : ℕ) → t < length arrays → left < size_of (array_at arrays t) → left + start_of arrays t ≡ place
    → IsElement arrays t (left / (array_at arrays t).columns + 1) (left % (array_at arrays t).columns + 1)
    × (place_of arrays t (left / (array_at arrays t).columns + 1) (left % (array_at arrays t).columns + 1) ≡ place)
element_found arrays t left place on less is =
    let n : ℕ = (array_at arrays t).columns in
    let some : 0 < n = columns_some (array_at arrays t).rows n left less in
    let row : left / n < (array_at arrays t).rows = div_below left n (array_at arrays t).rows some less in
    let column : left % n < n = mod-lt left some in
    let r : left / n + 1 - 1 ≡ left / n = omega arith in
    let s : left % n + 1 - 1 ≡ left % n = omega arith in
    let at : place_of arrays t (left / n + 1) (left % n + 1) ≡ start_of arrays t + left / n * n + left % n = rw (r, s) at (place_is arrays t (left / n + 1) (left % n + 1) on) in
    (element_there arrays t (left / n + 1) (left % n + 1) on (omega arith) (omega arith) (omega arith) (omega arith), omega (arith, div-add-mod' left n))
