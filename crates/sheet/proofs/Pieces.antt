-- The fields of a line lie on it. Assumes nothing.
use Rattle.std.proofs.Common.{◌≡◌, ℕ, ◌+◌, ◌<◌, ◌≤◌, List, [], ◌∷◌, length, sym, refl, ap, ◌∙◌, subst, arith, length-drop, Ok, Err}
use Rattle.std.specs.List.{AllByRecursion}
use Rattle.std.proofs.ByRecursion.{All-weaker}
use Rattle.tokens.specs.declared.extent.FieldKind.{FieldKind}
use Rattle.tokens.specs.Extents.{Extent, size, literal, extent_of}
use Rattle.tokens.specs.Texts.{Text, Piece, got, past, taken, word, field, line_end, fields_behind, Form, fields_of}
use Rattle.tokens.proofs.LineLaws.{not_got}
use Rattle.tokens.proofs.Steps.{byte_after}
use Rattle.tokens.proofs.Within.{literal_within, extent_within}
use Rattle.sheet.proofs.Kept.{then_inv}

-- u is t, or further on the same line
abbrev Further : Text → Text → Type 0
Further t u = (u.line ≡ t.line) × (t.byte ≤ u.byte) × (u.byte + length u.rest ≤ t.byte + length t.rest)

-- a piece of the line of t, where u is behind the line
abbrev pub Sits : Text → Text → Piece → Type 0
Sits t u p = (p.line ≡ t.line) × (t.byte ≤ p.byte) × (p.byte + length u.rest < t.byte + length t.rest)

taken_further : (e : Extent) (t : Text) → size e ≤ length t.rest → (p : Piece) (u : Text) → taken e t ≡ got p u → Further t u × (p.line ≡ t.line) × (p.byte ≡ t.byte)
taken_further (Ok n) t h p u k =
    let text : past n t ≡ u = cc in
    let line : t.line ≡ p.line = cc in
    let byte : t.byte ≡ p.byte = cc in
    (subst (Further t) text (refl, omega arith, omega (arith, length-drop n t.rest)), sym line, sym byte)
taken_further (Err e) t h p u k = absurd (not_got _ _ _ p u k)

word_further : (w : List ℕ) (t : Text) (p : Piece) (u : Text) → word w t ≡ got p u → Further t u
word_further w t p u e = (taken_further (literal w t.rest) t (literal_within w t.rest) p u e).0

field_further : (lead : ℕ) (k : FieldKind) (t : Text) (p : Piece) (u : Text) → field lead k t ≡ got p u → Further t u × (p.line ≡ t.line) × (t.byte ≤ p.byte) × (p.byte ≤ u.byte)
field_further lead k t p u e =
    let (q, x, is, on) = then_inv (word (lead ∷ []) t) _ p u e in
    let a = word_further (lead ∷ []) t q x is in
    let b = taken_further (extent_of k x.rest) x (extent_within k x.rest) p u on in
    ((b.0.0 ∙ a.0, omega (arith, a, b), omega (arith, a, b)), b.1 ∙ a.0, omega (arith, a, b), omega (arith, a, b))

end_shorter : (lead : ℕ) (t : Text) (ps : List Piece) (u : Text) → fields_behind lead [] t ≡ got ps u → ([] ≡ ps) × (length u.rest < length t.rest)
end_shorter lead t ps u e =
    let (a, x, is, on) = then_inv (line_end t) _ ps u e in
    let (q, y, was, to) = then_inv (word (10 ∷ []) t) _ a x is in
    let b = word_further (10 ∷ []) t q y was in
    let c = byte_after 10 t y q (sym was) in
    let same : x ≡ u = cc in
    let rest : y.rest ≡ x.rest = cc in
    let left : length y.rest ≡ length u.rest = ap length rest ∙ ap (λ z. length z.rest) same in
    (cc, omega (arith, b, c, left))

fields_sit : (kinds : List FieldKind) (lead : ℕ) (t : Text) (ps : List Piece) (u : Text) → fields_behind lead kinds t ≡ got ps u → (length ps ≡ length kinds) × AllByRecursion (Sits t u) ps × (length u.rest < length t.rest)
fields_sit [] lead t ps u e = let a = end_shorter lead t ps u e in subst (λ l. (length l ≡ length {A = FieldKind} []) × AllByRecursion (Sits t u) l × (length u.rest < length t.rest)) a.0 (refl, tt, a.1)
fields_sit (k ∷ kinds) lead t ps u e =
    let (p, x, is, on) = then_inv (field lead k t) _ ps u e in
    let (rest, y, was, to) = then_inv (fields_behind 44 kinds x) _ ps u on in
    let text : y ≡ u = cc in
    let list : p ∷ rest ≡ ps = cc in
    let a = field_further lead k t p x is in
    let b = fields_sit kinds 44 x rest u (was ∙ ap (got rest) text) in
    subst (λ l. (length l ≡ length (k ∷ kinds)) × AllByRecursion (Sits t u) l × (length u.rest < length t.rest)) list
    (omega (arith, b.0), ((a.1, a.2, omega (arith, a, b.2)), All-weaker (Sits x u) (Sits t u) (λ q s. (s.0 ∙ a.0.0, omega (arith, a, s), omega (arith, a, s))) rest b.1), omega (arith, a, b.2))

pub line_sits : (form : Form) (t : Text) (fields : List Piece) (u : Text) → fields_of form t ≡ got fields u → (length fields ≡ length form.kinds) × AllByRecursion (Sits t u) fields
line_sits form t fields u e =
    let (q, x, is, on) = then_inv (word form.key t) _ fields u e in
    let a = word_further form.key t q x is in
    let b = fields_sit form.kinds 61 x fields u on in
    (b.0, All-weaker (Sits x u) (Sits t u) (λ p s. (s.0 ∙ a.0, omega (arith, a, s), omega (arith, a, s))) fields b.1)
