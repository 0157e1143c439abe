-- The rows of letters as one list of the letters that wait, each with its sender and its receiver. Assumes nothing.
use Rattle.std.proofs.Common.{◌≡◌, ℕ, Bool, true, false, cond, ◌&&◌, eqb, List, [], ◌∷◌, ◌++◌, sym, refl, ap, ◌∙◌, append-nil, arith}
use mathlib.Core.Path.{fun_ext}
use Rattle.std.proofs.lemmas.Bool.{eq-eqb, and_from}
use Rattle.std.proofs.lemmas.Bool.Decides.{nat_tests}
use Rattle.network.specs.Request.{changed, joined as put_last, without_oldest}

-- a letter that waits: its sender, its receiver, its value
abbrev pub Waiting : Type 0 → Type 0
Waiting V = ℕ × ℕ × V

-- the row of each sender and receiver among the letters that wait, oldest first
abbrev pub rows_in : {V : Type 0} → List (Waiting V) → ℕ → ℕ → List V
rows_in [] i j = []
rows_in (l ∷ letters) i j = cond (eqb i l.0 && eqb j l.1) (l.2 ∷ rows_in letters i j) (rows_in letters i j)

-- a number is equal to itself
pub eqb_same : (n : ℕ) → eqb n n ≡ true
eqb_same n = eq-eqb n n refl

-- equality reads the same from both sides
pub eqb_turned : (m n : ℕ) → eqb m n ≡ eqb n m
eqb_turned m n = grind (arith, nat_tests)

same_pair : (p q : ℕ) → (eqb p p && eqb q q) ≡ true
same_pair p q = and_from (eqb p p) (eqb q q) (eqb_same p) (eqb_same q)

-- the oldest letter stands at the front of its row
pub oldest_first : {V : Type 0} (p q : ℕ) (v : V) (letters : List (Waiting V)) → rows_in ((p, q, v) ∷ letters) p q ≡ v ∷ rows_in letters p q
oldest_first p q v letters = ap (λ t. cond t (v ∷ rows_in letters p q) (rows_in letters p q)) (same_pair p q)

-- taken, it leaves the others
taken_row : {V : Type 0} (t : Bool) (v : V) (row : List V) → cond t (without_oldest (cond t (v ∷ row) row)) (cond t (v ∷ row) row) ≡ row
unfolding without_oldest
taken_row true v row = refl
taken_row false v row = refl

pub oldest_taken : {V : Type 0} (p q : ℕ) (v : V) (letters : List (Waiting V)) → changed p q without_oldest (rows_in ((p, q, v) ∷ letters)) ≡ rows_in letters
unfolding changed
oldest_taken p q v letters = fun_ext (λ i. fun_ext (λ j. taken_row (eqb i p && eqb j q) v (rows_in letters i j)))

-- the rows of two lists in succession
pub rows_append : {V : Type 0} (xs ys : List (Waiting V)) (i j : ℕ) → rows_in (xs ++ ys) i j ≡ rows_in xs i j ++ rows_in ys i j
rows_append [] ys i j = refl
rows_append {V} (l ∷ xs) ys i j = step (eqb i l.0 && eqb j l.1) (rows_append xs ys i j)
  where
    step : (t : Bool) → rows_in (xs ++ ys) i j ≡ rows_in xs i j ++ rows_in ys i j
        → cond t (l.2 ∷ rows_in (xs ++ ys) i j) (rows_in (xs ++ ys) i j) ≡ cond t (l.2 ∷ rows_in xs i j) (rows_in xs i j) ++ rows_in ys i j
    step true e = ap (λ r. l.2 ∷ r) e
    step false e = e

-- a letter that is put waits behind the others
put_row : {V : Type 0} (t : Bool) (v : V) (row : List V) → cond t (put_last v row) row ≡ row ++ cond t (v ∷ []) []
unfolding put_last
put_row true v row = refl
put_row false v row = sym (append-nil row)

pub put_behind : {V : Type 0} (p q : ℕ) (v : V) (letters : List (Waiting V)) → changed p q (put_last v) (rows_in letters) ≡ rows_in (letters ++ ((p, q, v) ∷ []))
unfolding changed
put_behind p q v letters =
    fun_ext (λ i. fun_ext (λ j. put_row (eqb i p && eqb j q) v (rows_in letters i j) ∙ sym (rows_append letters ((p, q, v) ∷ []) i j)))
