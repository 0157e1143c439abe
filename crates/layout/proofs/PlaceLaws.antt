-- Elements and places below the total match one to one. Assumes nothing.
use Rattle.std.proofs.Common.{◌≡◌, ℕ, zero, suc, ◌+◌, ◌-◌, ◌*◌, ◌/◌, ◌%◌, ◌<◌, ◌≤◌, List, [], ◌∷◌, sym, refl, ap, ◌∙◌, ⊎_elim, mod-lt, mul_comm, mul-zero, div-add-mod', arith}
use Rattle.std.proofs.lemmas.Nat.{mul-add-lt, div-mul-add, mod-mul-add, div_below}
use Rattle.std.proofs.lemmas.Bool.{cases_lt}
use Rattle.nest.specs.declared.terms.Array.{Array}
use Rattle.layout.specs.Places.{size_of, IsElement, place_of, PlaceBelow, PlaceAlone, PlaceTaken, OnePlaceEach}

-- within one array
cell_below : (a : Array) (x y : ℕ) → 1 ≤ x → x ≤ a.rows → 1 ≤ y → y ≤ a.columns → (x - 1) * a.columns + (y - 1) < size_of a
cell_below a x y p q r s = omega (arith, mul-add-lt (x - 1) a.columns (y - 1) a.rows (omega arith) (omega arith), mul_comm a.rows a.columns)

pub place_below : (arrays : List Array) → PlaceBelow arrays
unfolding place_of
place_below [] t x y e = absurd e
place_below (a ∷ more) zero x y e = omega (arith, cell_below a x y e.0 e.1 e.2 e.3)
place_below (a ∷ more) (suc t) x y e = omega (arith, place_below more t x y e)

cell_alone : (a : Array) (x y v w : ℕ) → (1 ≤ x) × (x ≤ a.rows) × (1 ≤ y) × (y ≤ a.columns) → (1 ≤ v) × (v ≤ a.rows) × (1 ≤ w) × (w ≤ a.columns) → (x - 1) * a.columns + (y - 1) ≡ (v - 1) * a.columns + (w - 1) → (x ≡ v) × (y ≡ w)
cell_alone a x y v w p q e =
    let hy : y - 1 < a.columns = omega arith in
    let hw : w - 1 < a.columns = omega arith in
    let rows : x - 1 ≡ v - 1 = sym (div-mul-add (x - 1) a.columns (y - 1) hy) ∙ ap (λ n. n / a.columns) e ∙ div-mul-add (v - 1) a.columns (w - 1) hw in
    let columns : y - 1 ≡ w - 1 = sym (mod-mul-add (x - 1) a.columns (y - 1) hy) ∙ ap (λ n. n % a.columns) e ∙ mod-mul-add (v - 1) a.columns (w - 1) hw in
    (omega arith, omega arith)

pub place_alone : (arrays : List Array) → PlaceAlone arrays
unfolding place_of
place_alone [] t x y u v w p q e = absurd p
place_alone (a ∷ more) zero x y zero v w p q e = let c = cell_alone a x y v w p q e in (refl, c.0, c.1)
place_alone (a ∷ more) zero x y (suc u) v w p q e = absurd (omega (arith, cell_below a x y p.0 p.1 p.2 p.3))
place_alone (a ∷ more) (suc t) x y zero v w p q e = absurd (omega (arith, cell_below a v w q.0 q.1 q.2 q.3))
place_alone (a ∷ more) (suc t) x y (suc u) v w p q e =
    let s : place_of more t x y ≡ place_of more u v w = omega arith in
    let r = place_alone more t x y u v w p q s in
    (ap suc r.0, r.1, r.2)

columns_some : (rows columns k : ℕ) → k < rows * columns → 0 < columns
columns_some rows zero k h = absurd (omega (arith, mul-zero rows))
columns_some rows (suc columns) k h = omega arith

cell_taken : (a : Array) (more : List Array) (k : ℕ) → k < size_of a → (t : ℕ) × (x : ℕ) × (y : ℕ) × IsElement (a ∷ more) t x y × (place_of (a ∷ more) t x y ≡ k)
unfolding place_of
cell_taken a more k l =
    let wide = columns_some a.rows a.columns k l in
    let row : k / a.columns < a.rows = div_below k a.columns a.rows wide l in
    let column : k % a.columns < a.columns = mod-lt k wide in
    let r : k / a.columns + 1 - 1 ≡ k / a.columns = omega arith in
    let c : k % a.columns + 1 - 1 ≡ k % a.columns = omega arith in
    (0, k / a.columns + 1, k % a.columns + 1, (omega arith, omega arith, omega arith, omega arith), rw (r, c) (div-add-mod' k a.columns))

pub place_taken : (arrays : List Array) → PlaceTaken arrays
unfolding place_of
place_taken [] k h = absurd (omega arith)
place_taken (a ∷ more) k h =
    ⊎_elim (cell_taken a more k)
    (λ l. let r = place_taken more (k - size_of a) (omega arith) in (suc r.0, r.1, r.2, r.3, omega (arith, r.4)))
    (cases_lt k (size_of a))

pub one_place_each : (arrays : List Array) → OnePlaceEach arrays
one_place_each arrays = (place_below arrays, place_alone arrays, place_taken arrays)
