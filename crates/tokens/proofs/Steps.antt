-- What a cursor has passed. Assumes nothing.
use Rattle.std.proofs.Common.{◌≡◌, ℕ, ◌+◌, Bool, true, false, cond, [], ◌∷◌, refl, ap, ◌∙◌, Ok, Err}
use Rattle.tokens.specs.Extents.{Extent, stuck, literal}
use Rattle.tokens.specs.Texts.{Text, Piece, got, past, taken, word}

byte_past : (e : Extent) (u t : Text) (p : Piece) → got p t ≡ taken e u → (n : ℕ) → ((m : ℕ) → e ≡ Ok m → m ≡ n) → t.byte ≡ u.byte + n
byte_past (Ok m) u t p h n f =
    let s : t ≡ past m u = cc in
    let k : m ≡ n = f m refl in
    ap (λ x. x.byte) s ∙ ap (λ i. u.byte + i) k
byte_past (Err e) u t p h n f = absurd (cc)

whole_is : (b : Bool) (n k m : ℕ) → cond b (Ok n) (stuck k) ≡ Ok m → m ≡ n
whole_is true n k m h = cc
whole_is false n k m h = absurd (cc)

-- a word of one byte moves on by one byte
pub byte_after : (b : ℕ) (u t : Text) (p : Piece) → got p t ≡ word (b ∷ []) u → t.byte ≡ u.byte + 1
byte_after b u t p h = byte_past (literal (b ∷ []) u.rest) u t p h 1 (λ m e. whole_is _ 1 _ m e)
