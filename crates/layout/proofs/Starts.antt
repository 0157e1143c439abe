-- Where arrays begin, and the places behind that. Assumes nothing.
use Rattle.std.proofs.Common.{◌≡◌, ℕ, zero, suc, ◌+◌, ◌-◌, ◌*◌, ◌<◌, ◌≤◌, true, ◌≢◌, List, [], ◌∷◌, length, get_or, set, refl, ap, ◌∙◌, ⊎_elim, arith, get_or-set_other, get_or-set_same, Some, false, is_le, nat_cmp}
use Rattle.std.proofs.lemmas.Nat.{mul-le}
use Rattle.std.proofs.lemmas.Map.Keys.{le_from_is_le}
use Rattle.std.proofs.lemmas.Bool.Decides.{nat_tests}
use Rattle.std.specs.Range.{range_inclusive_start, range_inclusive_end, range_inclusive_exhausted, range_inclusive_contains}
use Rattle.std.specs.declared.ops.RangeInclusive.{RangeInclusive}
use Rattle.std.proofs.lemmas.Bool.{and_parts, cases_order}
use Rattle.nest.specs.declared.terms.Grid.{Grid}
use Rattle.nest.specs.declared.terms.Array.{Array}
use Rattle.nest.specs.Terms.{Said}
use Rattle.nest.specs.Sound.{each, array_kept, nest_kept}
use Rattle.nest.proofs.Keeps.{array_parts, nest_parts}
use Rattle.layout.specs.Places.{size_of, total, IsElement, place_of, start_of, array_at, Small}

-- what IsElement says, by index
pub element_here : (arrays : List Array) (t x y : ℕ) → IsElement arrays t x y → (t < length arrays) × (1 ≤ x) × (x ≤ (array_at arrays t).rows) × (1 ≤ y) × (y ≤ (array_at arrays t).columns)
element_here [] t x y e = absurd e
element_here (a ∷ more) zero x y e = (omega arith, e.0, e.1, e.2, e.3)
element_here (a ∷ more) (suc t) x y e = let r = element_here more t x y e in (omega arith, r.1, r.2, r.3, r.4)

pub element_there : (arrays : List Array) (t x y : ℕ) → t < length arrays → 1 ≤ x → x ≤ (array_at arrays t).rows → 1 ≤ y → y ≤ (array_at arrays t).columns → IsElement arrays t x y
element_there [] t x y h p q r s = omega arith
element_there (a ∷ more) zero x y h p q r s = (p, q, r, s)
element_there (a ∷ more) (suc t) x y h p q r s = element_there more t x y (omega arith) p q r s

le_is : (a b : ℕ) → a ≤ b → is_le (nat_cmp a b) ≡ true
le_is a b h = grind (arith, nat_tests)

-- what a test for a range from 1 answers
pub in_from_one : (s : RangeInclusive ℕ) (high x : ℕ) → range_inclusive_start s ≡ 1 → range_inclusive_end s ≡ high → range_inclusive_exhausted s ≡ false → 1 ≤ x → x ≤ high
    → range_inclusive_contains (λ a b. Some (nat_cmp a b)) s x ≡ true
in_from_one s high x low up fresh p q = rw (low, up, fresh, le_is 1 x p, le_is x high q) refl

pub from_in_range : (low high first last x : ℕ) → low ≡ first → high ≡ last → (is_le (nat_cmp low x) ≡ true) × (is_le (nat_cmp x high) ≡ true) → (first ≤ x) × (x ≤ last)
from_in_range low high first last x p q t = (omega (arith, le_from_is_le low x t.0), omega (arith, le_from_is_le x high t.1))

-- a place is counted from where its array begins
pub place_is : (arrays : List Array) (t x y : ℕ) → t < length arrays → place_of arrays t x y ≡ start_of arrays t + (x - 1) * (array_at arrays t).columns + (y - 1)
unfolding place_of
place_is [] t x y h = absurd (omega arith)
place_is (a ∷ more) zero x y h = omega arith
place_is (a ∷ more) (suc t) x y h = omega (arith, place_is more t x y (omega arith))

pub start_more : (arrays : List Array) (t : ℕ) → t < length arrays → start_of arrays (t + 1) ≡ start_of arrays t + size_of (array_at arrays t)
start_more [] t h = absurd (omega arith)
start_more (a ∷ []) zero h = omega arith
start_more (a ∷ b ∷ more) zero h = omega arith
start_more (a ∷ more) (suc t) h =
    let n : suc t + 1 ≡ suc (t + 1) = omega arith in
    rw n (omega (arith, start_more more t (omega arith)))

pub start_all : (arrays : List Array) → start_of arrays (length arrays) ≡ total arrays
start_all [] = refl
start_all (a ∷ more) = ap (λ n. size_of a + n) (start_all more)

-- no array of a small list has more than 1,024 elements
pub size_small : (arrays : List Array) → Small arrays → (t : ℕ) → size_of (array_at arrays t) ≤ 1024
size_small arrays s t = mul-le (array_at arrays t).rows (array_at arrays t).columns 32 32 (s t).0 (s t).1

pub start_small : (arrays : List Array) → Small arrays → (t : ℕ) → start_of arrays t ≤ 1024 * t
start_small [] s t = omega arith
start_small (a ∷ more) s zero = omega arith
start_small (a ∷ more) s (suc t) = omega (arith, size_small (a ∷ more) s 0, start_small more (λ k. s (suc k)) t)

pub each_small : (arrays : List Array) → each array_kept arrays ≡ true → Small arrays
each_small [] k t = (omega arith, omega arith)
each_small (a ∷ more) k zero = let p = array_parts a (and_parts (array_kept a) (each array_kept more) k).0 in (p.rows.1, p.columns.1)
each_small (a ∷ more) k (suc t) = each_small more (and_parts (array_kept a) (each array_kept more) k).1 t

-- the arrays of a nest are few and small
pub kept_small : (g : Grid) (arrays : List Array) (sweeps : ℕ) (statements : List Said) → nest_kept g arrays sweeps statements ≡ true → (length arrays ≤ 4) × Small arrays
kept_small g arrays sweeps statements k =
    let p = nest_parts g arrays sweeps statements k in
    (p.some_arrays.1, each_small arrays p.each_array)

-- the starts so far
abbrev pub Begun : List Array → List ℕ → ℕ → Type 0
Begun arrays starts t = (k : ℕ) → k < t → get_or starts k 0 ≡ start_of arrays k

pub begun_more : (arrays : List Array) (starts : List ℕ) (t sum : ℕ) → t < length starts → Begun arrays starts t → sum ≡ start_of arrays t → Begun arrays (set starts t sum) (t + 1)
begun_more arrays starts t sum h so e k l =
    ⊎_elim
    (λ s. let same : k ≡ t = s in rw same (get_or-set_same starts t sum 0 h ∙ e))
    (⊎_elim (λ less. let ne : k ≢ t = omega arith in get_or-set_other starts t k sum 0 ne ∙ so k less) (λ more. absurd (omega arith)))
    (cases_order k t)

module _ (arrays : List Array) (starts : List ℕ) (few : length arrays ≤ 4) (small : Small arrays) (begun : Begun arrays starts (length arrays)) where
  -- a place is far below the largest number
  pub place_room : (t x y : ℕ) → t < length arrays → x ≤ (array_at arrays t).rows → y ≤ (array_at arrays t).columns → get_or starts t 0 + (x - 1) * (array_at arrays t).columns + (y - 1) < 8192
  place_room t x y h p q =
      omega (arith, begun t h, start_small arrays small t, mul-le (x - 1) (array_at arrays t).columns 32 32 (omega (arith, (small t).0)) (small t).1, (small t).1)

  pub place_found : (t x y : ℕ) → t < length arrays → get_or starts t 0 + (x - 1) * (array_at arrays t).columns + (y - 1) ≡ place_of arrays t x y
  place_found t x y h = omega (arith, begun t h, place_is arrays t x y h)

-- the sum so far, one array more, stays far below the largest number
pub sum_room : (arrays : List Array) (t : ℕ) → length arrays ≤ 4 → Small arrays → t < length arrays → start_of arrays t + size_of (array_at arrays t) < 8192
sum_room arrays t few small h = omega (arith, start_small arrays small t, size_small arrays small t)

pub start_none : (arrays : List Array) → start_of arrays 0 ≡ 0
start_none [] = refl
start_none (a ∷ more) = refl
