-- Reading a line of a sheet from the front: what is got, and what is left. Assumes nothing.
use Rattle.std.specs.Prelude.{ℕ, ◌+◌, List, [], ◌∷◌, take, drop, Ok, Err}
use Rattle.tokens.specs.declared.extent.FieldKind.{FieldKind}
use Rattle.tokens.specs.Extents.{Extent, literal, extent_of}

-- what is left of a sheet, and the place of its first byte
pub record Text : Type 0 where
  pub rest : List ℕ
  pub line : ℕ
  pub byte : ℕ

-- a part of a sheet, and the place of its first byte
pub record Piece : Type 0 where
  pub text : List ℕ
  pub line : ℕ
  pub byte : ℕ

-- a value and the text behind it, or a refusal by its number and place
pub data Read (V : Type 0) : Type 0 where
  got : V → Text → Read V
  refused : ℕ → ℕ → ℕ → Read V

-- first the one, and then, with its value, the other on the text behind it
abbrev pub then : {V W : Type 0} → Read V → (V → Text → Read W) → Read W
then (got v t) f = f v t
then (refused number line byte) f = refused number line byte

-- n bytes further on the same line
abbrev pub past : ℕ → Text → Text
past n t = record { rest = drop n t.rest; line = t.line; byte = t.byte + n }

-- the bytes that an extent counts; where it is stuck, refusal 1 at the byte that cannot go on
abbrev pub taken : Extent → Text → Read Piece
taken (Ok n) t = got (record { text = take n t.rest; line = t.line; byte = t.byte }) (past n t)
taken (Err e) t = refused 1 t.line (t.byte + e.after)

-- a word that has to stand here
abbrev pub word : List ℕ → Text → Read Piece
word w t = taken (literal w t.rest) t

-- a field of a kind, behind the byte that parts it from what precedes
abbrev pub field : ℕ → FieldKind → Text → Read Piece
field lead kind t = then (word (lead ∷ []) t) (λ _ u. taken (extent_of kind u.rest) u)

-- the newline (10) that ends a line
abbrev pub line_end : Text → Read (Unit {0})
line_end t = then (word (10 ∷ []) t) (λ _ u. got tt (record { rest = u.rest; line = u.line + 1; byte = 1 }))

-- the fields of a line, each behind a comma (44)
abbrev pub fields_behind : ℕ → List FieldKind → Text → Read (List Piece)
fields_behind lead [] t = then (line_end t) (λ _ u. got [] u)
fields_behind lead (k ∷ kinds) t = then (field lead k t) (λ p u. then (fields_behind 44 kinds u) (λ ps v. got (p ∷ ps) v))

-- the form of a line: its key, and the kinds of its fields
pub record Form : Type 0 where
  pub key : List ℕ
  pub kinds : List FieldKind

-- a line of a form: the key, an equals sign (61), the fields with commas between, the newline
abbrev pub fields_of : Form → Text → Read (List Piece)
fields_of form t = then (word form.key t) (λ _ u. fields_behind 61 form.kinds u)

-- nothing may be left
abbrev pub nothing_left : List ℕ → Text → Read (Unit {0})
nothing_left [] t = got tt t
nothing_left (b ∷ rest) t = refused 1 t.line t.byte
