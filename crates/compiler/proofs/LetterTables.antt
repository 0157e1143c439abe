-- Tables of numbers by pair, in which one number is put. Assumes nothing.
use Rattle.std.proofs.Common.{◌≡◌, ℕ, ◌<◌, List, [], length, get_or, set, sym, ap, ◌∙◌, ◌⊎◌, inl, inr, ⊎_elim, arith}
use Rattle.std.specs.Array.{AllOfLen}
use Rattle.std.proofs.lemmas.List.{length-set, get_or-set_same, get_or-set_other}
use Rattle.std.proofs.lemmas.Bool.{cases_eq}
use Rattle.compiler.specs.LetterCounts.{sent_by, count_at, Square}

-- one pair or another
pub cases_pair : (x y p q : ℕ) → ((x ≡ p) × (y ≡ q)) ⊎ (x ≡ p → y ≡ q → ⊥)
cases_pair x y p q = ⊎_elim (λ a. ⊎_elim (λ b. inl (a, b)) (λ b. inr (λ _ e. b e)) (cases_eq y q)) (λ a. inr (λ e _. a e)) (cases_eq x p)

abbrev pub put : List (List ℕ) → ℕ → ℕ → ℕ → List (List ℕ)
put counts p q v = set counts p (set (sent_by counts p) q v)

module _ (counts : List (List ℕ)) (p q v : ℕ) (hp : p < 8) (square : Square counts) where
  pub put_square : Square (put counts p q v)
  put_square = (
    length-set counts p (set (sent_by counts p) q v) ∙ square.0,
    λ x h.
        ⊎_elim
        (λ same. rw same (ap length (get_or-set_same counts p (set (sent_by counts p) q v) [] (omega (arith, square.0))) ∙ length-set (sent_by counts p) q v ∙ square.1 p hp))
        (λ ne. ap length (get_or-set_other counts p x (set (sent_by counts p) q v) [] ne) ∙ square.1 x h)
        (cases_eq x p),
  )

  -- the number at its pair
  pub put_here : q < 8 → count_at (put counts p q v) p q ≡ v
  put_here hq =
      ap (λ r. get_or r q 0) (get_or-set_same counts p (set (sent_by counts p) q v) [] (omega (arith, square.0)))
      ∙ get_or-set_same (sent_by counts p) q v 0 (omega (arith, square.1 p hp))

  -- every other pair keeps its number
  pub put_elsewhere : (x y : ℕ) → (x ≡ p → y ≡ q → ⊥) → count_at (put counts p q v) x y ≡ count_at counts x y
  put_elsewhere x y ne =
      ⊎_elim
      (λ same.
      ap (λ z. count_at (put counts p q v) z y) same
      ∙ ap (λ r. get_or r y 0) (get_or-set_same counts p (set (sent_by counts p) q v) [] (omega (arith, square.0)))
      ∙ get_or-set_other (sent_by counts p) q y v 0 (ne same)
      ∙ ap (λ z. count_at counts z y) (sym same))
      (λ other. ap (λ r. get_or r y 0) (get_or-set_other counts p x (set (sent_by counts p) q v) [] other))
      (cases_eq x p)

-- a table of noughts
abbrev pub Noughts : List (List ℕ) → Type 0
Noughts counts = AllOfLen (λ row. AllOfLen (λ n. n ≡ 0) row 8) counts 8

pub noughts_square : (counts : List (List ℕ)) → Noughts counts → Square counts
noughts_square counts none = (none.long, λ p h. (none.at p [] h).long)

pub noughts_at : (counts : List (List ℕ)) → Noughts counts → (p q : ℕ) → p < 8 → q < 8 → count_at counts p q ≡ 0
noughts_at counts none p q hp hq = (none.at p [] hp).at q 0 hq
