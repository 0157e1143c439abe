-- Rows of owners: how often a board stands in one, and where it stands for the r-th time.
use Rattle.std.specs.Prelude.{◌≡◌, ℕ, zero, suc, ◌+◌, ◌<◌, ◌≤◌, Bool, true, false, cond, List, [], ◌∷◌, length, take, Some, None, ◌==◌, nat_lt, slice_index, count_by, refl}
use Rattle.std.proofs.Common.{arith}
use Rattle.std.proofs.lemmas.Bool.{cond-true, cond-false, eqb-true}
use Rattle.std.proofs.lemmas.Bool.Decides.{nat_tests}
use Rattle.std.proofs.lemmas.List.{take-take}
use Rattle.std.proofs.lemmas.List.Recursion.{is_count_by}
use Rattle.std.proofs.lemmas.List.Sums.{sum_by_more, sum_by-take-le, count_by-le-length}
use Rattle.owner_map.specs.Meaning.{tally, seek, sum_over}

-- A tally is a count.
pub tally_counts : (b : ℕ) (row : List ℕ) → tally b row ≡ count_by (λ o. o == b) row
tally_counts b row = is_count_by (tally b) (λ o. o == b) refl (λ o rest. grind (arith, nat_tests)) row

-- One position more of a row.
pub tally_more : (b : ℕ) (row : List ℕ) (i : ℕ) → i < length row → tally b (take (i + 1) row) ≡ tally b (take i row) + cond (slice_index row i == b) 1 0
tally_more b row i h =
    rw (tally_counts b (take (i + 1) row), tally_counts b (take i row)) (sum_by_more (λ o. cond (o == b) 1 0) row i 0 h)

-- No board stands more often in a row than the row is long.
pub tally_le : (b : ℕ) (row : List ℕ) → tally b row ≤ length row
tally_le b row = rw (tally_counts b row) (count_by-le-length (λ o. o == b) row)

-- A longer front of a row has a board at least as often.
pub tally_mono : (b : ℕ) (row : List ℕ) (i j : ℕ) → i ≤ j → tally b (take i row) ≤ tally b (take j row)
tally_mono b row i j h =
    let part = sum_by-take-le (λ o. cond (o == b) 1 0) (take j row) i in
    rw (tally_counts b (take i row), tally_counts b (take j row)) (rw (take-take i j row h) at part)

-- The search for a position's own owner and rank ends at that position.
pub seek_finds : (x : ℕ) (row : List ℕ) (i b : ℕ) → i < length row → slice_index row i ≡ b → seek x b (tally b (take i row)) row ≡ Some (x + i)
seek_finds x [] i b h e = absurd (omega arith)
seek_finds x (o ∷ row) zero b h e = grind (arith, nat_tests)
seek_finds x (o ∷ row) (suc i) b h e =
    let ih = seek_finds (suc x) row i b (omega arith) e in
    grind (arith, nat_tests)

-- The search for a rank that the board does not reach finds none.
pub seek_none : (x b r : ℕ) (row : List ℕ) → tally b row ≤ r → seek x b r row ≡ None
seek_none x b r [] h = refl
seek_none x b zero (o ∷ row) h =
    let ih : tally b row ≤ 0 → seek (suc x) b zero row ≡ None = seek_none (suc x) b zero row in
    grind (arith, nat_tests)
seek_none x b (suc r) (o ∷ row) h =
    let hit : tally b row ≤ r → seek (suc x) b r row ≡ None = seek_none (suc x) b r row in
    let miss : tally b row ≤ suc r → seek (suc x) b (suc r) row ≡ None = seek_none (suc x) b (suc r) row in
    grind (arith, nat_tests)

-- A place in a row at which board b stands after r earlier ones.
abbrev pub Standing : ℕ → ℕ → List ℕ → Type 0
Standing b r row = (i : ℕ) × (i < length row) × (slice_index row i ≡ b) × (tally b (take i row) ≡ r)

later : (b r r' o : ℕ) (row : List ℕ) → cond (o == b) (suc r) r ≡ r' → Standing b r row → Standing b r' (o ∷ row)
later b r r' o row e s =
    let t : cond (o == b) (suc (tally b (take s.0 row))) (tally b (take s.0 row)) ≡ r' = rw s.3 e in
    (suc s.0, omega arith, s.2, t)

-- Each rank that the board reaches stands somewhere.
pub stands : (b r : ℕ) (row : List ℕ) → r < tally b row → Standing b r row
stands b r [] h = absurd (omega arith)
stands b zero (o ∷ row) h = at (o == b) refl (stands b zero row)
  where
    at : (hit : Bool) → (o == b) ≡ hit → (0 < tally b row → Standing b 0 row) → Standing b 0 (o ∷ row)
    at true q further = (0, omega arith, eqb-true o b q, refl)
    at false q further = later b 0 0 o row (cond-false (o == b) 1 0 q) (further (grind (arith, nat_tests)))
stands b (suc r) (o ∷ row) h = at (o == b) refl (stands b r row) (stands b (suc r) row)
  where
    at : (hit : Bool) → (o == b) ≡ hit → (r < tally b row → Standing b r row) → (suc r < tally b row → Standing b (suc r) row) → Standing b (suc r) (o ∷ row)
    at true q rest further = later b r (suc r) o row (cond-true (o == b) (suc r) r q) (rest (grind (arith, nat_tests)))
    at false q rest further = later b (suc r) (suc r) o row (cond-false (o == b) (suc (suc r)) (suc r) q) (further (grind (arith, nat_tests)))

-- One owner more adds one to the tally of its own board and to no other.
sum_more : (p o : ℕ) (row : List ℕ) → sum_over p (λ b. tally b (o ∷ row)) ≡ sum_over p (λ b. tally b row) + cond (nat_lt o p) 1 0
sum_more zero o row = grind (arith, nat_tests)
sum_more (suc p) o row = let ih = sum_more p o row in grind (arith, nat_tests)

sum_nothing : (p : ℕ) → sum_over p (λ b. 0) ≡ 0
sum_nothing zero = refl
sum_nothing (suc p) = let ih = sum_nothing p in omega arith

-- The tallies of all boards add up to the length of the row.
pub sum_tally : (p : ℕ) (row : List ℕ) → ((i : ℕ) → i < length row → slice_index row i < p) → sum_over p (λ b. tally b row) ≡ length row
sum_tally p [] each = sum_nothing p
sum_tally p (o ∷ row) each =
    let first : o < p = each 0 (omega arith) in
    let ih : sum_over p (λ b. tally b row) ≡ length row = sum_tally p row (λ i h. each (suc i) (omega arith)) in
    let s = sum_more p o row in
    grind (arith, nat_tests)
