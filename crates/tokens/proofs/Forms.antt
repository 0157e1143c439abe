-- The readers of the fields of a line, and of a line of a form, have the law of readers. Assumes nothing.
use Rattle.std.proofs.Common.{◌≡◌, ℕ, ◌+◌, true, false, eqb, List, [], ◌∷◌, sym, refl, ap, ◌∙◌, subst, inl, inr, arith, Ok}
use mathlib.Core.Path.{fun_ext}
use Rattle.std.proofs.lemmas.Bool.{eqb-true, cond-true, cond-false, cases_Bool}
use Rattle.tokens.specs.declared.extent.FieldKind.{FieldKind}
use Rattle.tokens.specs.Extents.{Extent, stuck, literal, extent_of}
use Rattle.tokens.specs.Texts.{Text, Piece, Read, got, refused, then, taken, word, field, line_end, fields_behind, Form, fields_of}
use Rattle.tokens.specs.FormLaws.{onwards, next_line, Unbroken}
use Rattle.tokens.proofs.Spelling.{literal_spelled, literal_law}
use Rattle.tokens.proofs.FieldLaws.{Quiet, field_law}
use Rattle.tokens.proofs.LineLaws.{not_got, first_got, then_then, StoppedLine, LineCut, LineLaw, behind_extent, behind_extent_lem, made, made_law}

-- a byte, read as a word of its own
module _ (b : ℕ) where
  byte_there : (x : ℕ) (s : List ℕ) → eqb b x ≡ true → literal (b ∷ []) (x ∷ s) ≡ Ok 1
  byte_there x s e = literal_spelled (b ∷ []) (x ∷ s) ∙ cond-true (eqb b x) _ _ e

  byte_other : (x : ℕ) (s : List ℕ) → eqb b x ≡ false → literal (b ∷ []) (x ∷ s) ≡ stuck 0
  byte_other x s e = literal_spelled (b ∷ []) (x ∷ s) ∙ cond-false (eqb b x) _ _ e

  quiet_byte : Quiet (b ∷ []) → (s : List ℕ) (t : Text) (p : Piece) (l : Text) → taken (literal (b ∷ []) s) t ≡ got p l → Quiet s
  quiet_byte q [] t p l e = absurd (not_got _ _ _ p l e)
  quiet_byte q (x ∷ s) t p l e =
      elim (cases_Bool (eqb b x)) [
        | inl h ↦ subst (λ y. Quiet (y ∷ s)) (eqb-true b x h) q
        | inr h ↦ absurd (not_got _ _ _ p l (sym (ap (λ y. taken y t) (byte_other x s h)) ∙ e))
      ]

-- the fields that a line is read to have, each behind a byte that no field goes on with, begin with such a byte or with the newline
fields_quiet : (lead : ℕ) → Quiet (lead ∷ []) → (kinds : List FieldKind) (t : Text) (ps : List Piece) (l : Text) → fields_behind lead kinds t ≡ got ps l → Quiet t.rest
fields_quiet lead q [] t ps l e =
    let a = first_got (line_end t) _ ps l e in
    let b = first_got (word (10 ∷ []) t) _ a.0 a.1 a.2 in
    quiet_byte 10 (refl, refl) t.rest t b.0 b.1 b.2
fields_quiet lead q (k ∷ kinds) t ps l e =
    let a = first_got (field lead k t) _ ps l e in
    let b = first_got (word (lead ∷ []) t) _ a.0 a.1 a.2 in
    quiet_byte lead q t.rest t b.0 b.1 b.2

-- the end of a line, where the newline is found by this extent
abbrev end_by : Extent → Text → Read (List Piece)
end_by e t = then (then (taken e t) (λ _ u. got (tt {0}) (record { rest = u.rest; line = u.line + 1; byte = 1 }))) (λ _ u. got [] u)

module _ (lead : ℕ) (t : Text) where
  end_there : (x : ℕ) (s : List ℕ) → eqb 10 x ≡ true → fields_behind lead [] (onwards t (x ∷ s)) ≡ got [] (next_line t s)
  end_there x s e = ap (λ y. end_by y (onwards t (x ∷ s))) (byte_there 10 x s e)

  end_other : (x : ℕ) (s : List ℕ) → eqb 10 x ≡ false → fields_behind lead [] (onwards t (x ∷ s)) ≡ refused 1 t.line (t.byte + 0)
  end_other x s e = ap (λ y. end_by y (onwards t (x ∷ s))) (byte_other 10 x s e)

  end_stops : (s : List ℕ) → ((x : ℕ) (w : List ℕ) → s ≡ x ∷ w → eqb 10 x ≡ false) → StoppedLine (fields_behind lead []) (onwards t s) 1 t.line (t.byte + 0)
  end_stops s other =
      record {
        front = [];
        back = s;
        cut = refl;
        unbroken = tt;
        numbered = refl;
        same_line = refl;
        place = refl;
        more = 10 ∷ [];
        value = [];
        goes_on = end_there 10 [] refl;
        cannot = λ x w e c. end_other x c (other x w e);
      }

  end_cut : (s : List ℕ) → LineCut (fields_behind lead []) (onwards t s) (fields_behind lead [] (onwards t s))
  end_cut [] = end_stops [] (λ x w e. absurd (cc))
  end_cut (x ∷ s) =
      elim (cases_Bool (eqb 10 x)) [
        | inl h ↦ subst (LineCut (fields_behind lead []) (onwards t (x ∷ s))) (sym (end_there x s h)) (record {
          front = [];
          back = s;
          cut = ap {B = List ℕ} (λ y. y ∷ s) (sym (eqb-true 10 x h));
          unbroken = tt;
          behind = refl;
          whatever = λ c. end_there 10 c refl;
        })
        | inr h ↦ subst (LineCut (fields_behind lead []) (onwards t (x ∷ s))) (sym (end_other x s h)) (end_stops (x ∷ s) (λ y w e. let same : x ≡ y = cc in ap (eqb 10) (sym same) ∙ h))
      ]

-- one field more before fields that have the law
module _ (k : FieldKind) (kinds : List FieldKind) (law : LineLaw (fields_behind 44 kinds)) where
  abbrev others : Piece → Text → Read (List Piece)
  others p = made (λ ps. p ∷ ps) (fields_behind 44 kinds)

  others_quiet : (p : Piece) (t : Text) (ps : List Piece) (u : Text) → others p t ≡ got ps u → Quiet t.rest
  others_quiet p t ps u e =
      let a = first_got (fields_behind 44 kinds t) _ ps u e in
      fields_quiet 44 (refl, refl) kinds t a.0 a.1 a.2

  one_field_more : (lead : ℕ) → (lead ≡ 10 → ⊥) → LineLaw (fields_behind lead (k ∷ kinds))
  one_field_more lead h =
      let inner : LineLaw (behind_extent (extent_of k) others) = behind_extent_lem Quiet (extent_of k) (field_law k) others (λ p. made_law (λ ps. p ∷ ps) (fields_behind 44 kinds) law) others_quiet in
      let outer : LineLaw (behind_extent (literal (lead ∷ [])) (λ _. behind_extent (extent_of k) others))
      = behind_extent_lem (λ _. Unit {0}) (literal (lead ∷ [])) (literal_law _ (lead ∷ []) (h, tt)) (λ _. behind_extent (extent_of k) others) (λ _. inner) (λ _ _ _ _ _. tt) in
      subst LineLaw (fun_ext (λ t. sym (then_then (word (lead ∷ []) t) _ others))) outer

-- the law of the fields of a line with its end
pub fields_law : (kinds : List FieldKind) (lead : ℕ) → (lead ≡ 10 → ⊥) → LineLaw (fields_behind lead kinds)
fields_law [] lead h = λ t. end_cut lead t t.rest
fields_law (k ∷ kinds) lead h = one_field_more k kinds (fields_law kinds 44 (omega arith)) lead h

-- the law of a line of a form
pub line_law : (form : Form) → Unbroken form.key → LineLaw (fields_of form)
line_law form u =
    behind_extent_lem (λ _. Unit {0}) (literal form.key) (literal_law _ form.key u) (λ _. fields_behind 61 form.kinds) (λ _. fields_law form.kinds 61 (omega arith)) (λ _ _ _ _ _. tt)
