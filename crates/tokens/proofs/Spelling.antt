-- A word at the front of a text, byte by byte. Assumes nothing.
use Rattle.std.proofs.Common.{◌≡◌, ℕ, suc, Bool, true, false, cond, eqb, ltb, List, [], ◌∷◌, length, drop, refl, ap, ◌∙◌, inl, inr, arith, Ok, Err}
use lib.Dec.{eqb-zero-suc, eqb-suc-suc, leb-suc-suc}
use Rattle.std.proofs.lemmas.Bool.{eqb-true, eq-eqb, lt-ltb, cond-true, cond-false, cases_Bool}
use Rattle.tokens.specs.Extents.{Extent, stuck, shared, after, literal}
use Rattle.tokens.specs.FormLaws.{Unbroken}
use Rattle.tokens.proofs.Extending.{ExtentLaw, Goes, Begins, needs_byte, may_end, same_begins}

-- the extent that counts nothing
abbrev pub nothing : List ℕ → Extent
nothing s = Ok 0

pub nothing_law : (Follows : List ℕ → Type 0) → ExtentLaw Follows nothing
nothing_law Follows = may_end nothing refl (λ b. inr (λ s. refl)) (λ c p. refl)

-- a word, byte by byte, and another extent behind it
abbrev pub spelled : List ℕ → (List ℕ → Extent) → List ℕ → Extent
spelled [] g s = g s
spelled (a ∷ w) g [] = stuck 0
spelled (a ∷ w) g (b ∷ s) = cond (eqb a b) (after 1 (spelled w g s)) (stuck 0)

module _ (Follows : List ℕ → Type 0) (g : List ℕ → Extent) (law : ExtentLaw Follows g) where
  module _ (a : ℕ) (w : List ℕ) (no_newline : a ≡ 10 → ⊥) (tail : ExtentLaw Follows (spelled w g)) where
    spelled_goes : (b : ℕ) → eqb a b ≡ true → Goes Follows (spelled (a ∷ w) g) b
    spelled_goes b e =
        record {
          next = spelled w g;
          law = tail;
          no_newline = λ h. no_newline (eqb-true a b e ∙ h);
          so = λ s. cond-true (eqb a b) _ _ e;
        }

    spelled_begins : Begins Follows (spelled (a ∷ w) g) a
    spelled_begins =
        record {
          none = refl;
          steps = λ b. elim (cases_Bool (eqb a b)) [ inl e ↦ inl (spelled_goes b e) | inr e ↦ inr (λ s. cond-false (eqb a b) _ _ e) ];
          goes = spelled_goes a (eq-eqb a a refl);
        }

after_zero : (e : Extent) → after 0 e ≡ e
after_zero (Ok k) = ap Ok (omega arith)
after_zero (Err e) = ap stuck (omega arith)

after_suc : (n : ℕ) (e : Extent) → after (suc n) e ≡ after 1 (after n e)
after_suc n (Ok k) = ap Ok (omega arith)
after_suc n (Err e) = ap stuck (omega arith)

-- a word by the bytes that it shares with the text, and another extent behind it
abbrev pub behind_word : List ℕ → (List ℕ → Extent) → List ℕ → Extent
behind_word w g s = cond (ltb (shared w s) (length w)) (stuck (shared w s)) (after (length w) (g (drop (length w) s)))

one_whole : (t : Bool) (n k : ℕ) → cond t (Ok (suc n)) (stuck (suc k)) ≡ after 1 (cond t (Ok n) (stuck k))
one_whole true n k = ap Ok (omega arith)
one_whole false n k = ap stuck (omega arith)

one_behind : (t : Bool) (n k : ℕ) (e : Extent) → cond t (stuck (suc k)) (after (suc n) e) ≡ after 1 (cond t (stuck k) (after n e))
one_behind true n k e = ap stuck (omega arith)
one_behind false n k e = after_suc n e

pub literal_spelled : (w s : List ℕ) → literal w s ≡ spelled w nothing s
literal_spelled [] s = refl
literal_spelled (a ∷ w) [] = cond-false _ _ _ (eqb-zero-suc (length w))
literal_spelled (a ∷ w) (b ∷ s) = go (eqb a b) (literal_spelled w s)
  where
    go : (t : Bool) → literal w s ≡ spelled w nothing s
        → cond (eqb (cond t (suc (shared w s)) 0) (suc (length w))) (Ok (suc (length w))) (stuck (cond t (suc (shared w s)) 0)) ≡ cond t (after 1 (spelled w nothing s)) (stuck 0)
    go true h = rw (eqb-suc-suc (shared w s) (length w)) (one_whole (eqb (shared w s) (length w)) (length w) (shared w s) ∙ ap (after 1) h)
    go false h = cond-false _ _ _ (eqb-zero-suc (length w))

pub behind_spelled : (w : List ℕ) (g : List ℕ → Extent) (s : List ℕ) → behind_word w g s ≡ spelled w g s
behind_spelled [] g s = after_zero (g s)
behind_spelled (a ∷ w) g [] = cond-true _ _ _ (lt-ltb 0 (suc (length w)) (omega arith))
behind_spelled (a ∷ w) g (b ∷ s) = go (eqb a b) (behind_spelled w g s)
  where
    go : (t : Bool) → behind_word w g s ≡ spelled w g s
        → cond (ltb (cond t (suc (shared w s)) 0) (suc (length w))) (stuck (cond t (suc (shared w s)) 0)) (after (suc (length w)) (g (drop (length w) s))) ≡ cond t (after 1 (spelled w g s)) (stuck 0)
    go true h = rw (leb-suc-suc (suc (shared w s)) (length w)) (one_behind (ltb (shared w s) (length w)) (length w) (shared w s) (g (drop (length w) s)) ∙ ap (after 1) h)
    go false h = cond-true _ _ _ (lt-ltb 0 (suc (length w)) (omega arith))

-- the law of a word with another extent behind it, and of a word alone, which needs to know nothing of what follows
pub spelled_law : (Follows : List ℕ → Type 0) (g : List ℕ → Extent) → ExtentLaw Follows g → (w : List ℕ) → Unbroken w → ExtentLaw Follows (spelled w g)
spelled_law Follows g law [] u = law
spelled_law Follows g law (a ∷ w) u = needs_byte (spelled (a ∷ w) g) a (spelled_begins Follows g law a w u.0 (spelled_law Follows g law w u.1))

pub behind_begins : (Follows : List ℕ → Type 0) (g : List ℕ → Extent) → ExtentLaw Follows g → (a : ℕ) (w : List ℕ) → Unbroken (a ∷ w) → Begins Follows (behind_word (a ∷ w) g) a
behind_begins Follows g law a w u = same_begins _ _ (behind_spelled (a ∷ w) g) (spelled_begins Follows g law a w u.0 (spelled_law Follows g law w u.1))

pub literal_begins : (Follows : List ℕ → Type 0) (a : ℕ) (w : List ℕ) → Unbroken (a ∷ w) → Begins Follows (literal (a ∷ w)) a
literal_begins Follows a w u =
    let law = nothing_law Follows in
    same_begins _ _ (literal_spelled (a ∷ w)) (spelled_begins Follows nothing law a w u.0 (spelled_law Follows nothing law w u.1))

pub literal_law : (Follows : List ℕ → Type 0) (w : List ℕ) → Unbroken w → ExtentLaw Follows (literal w)
literal_law Follows [] u = nothing_law Follows
literal_law Follows (a ∷ w) u = needs_byte (literal (a ∷ w)) a (literal_begins Follows a w u)
