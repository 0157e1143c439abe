-- What the two answers of reading a line by its form mean for the bytes of the text. Assumes nothing.
use Rattle.std.specs.Prelude.{◌≡◌, ℕ, suc, ◌+◌, ◌<◌, ◌≤◌, List, [], ◌∷◌, ◌++◌, length, take, drop, ◌≢◌}
use Rattle.tokens.specs.Texts.{Text, Piece, Read, got, refused, Form, fields_of}

-- the same place of a sheet, with other bytes from there on
abbrev pub onwards : Text → List ℕ → Text
onwards t s = record { rest = s; line = t.line; byte = t.byte }

-- the beginning of the next line, with these bytes from there on
abbrev pub next_line : Text → List ℕ → Text
next_line t s = record { rest = s; line = t.line + 1; byte = 1 }

-- no newline (10) among the bytes
abbrev pub Unbroken : List ℕ → Type 0
Unbroken [] = Unit {0}
Unbroken (b ∷ s) = (b ≢ 10) × Unbroken s

-- the first n bytes are a line of the form with these fields, ended by their only newline; nothing behind them is looked at
pub record IsLine (form : Form) (t : Text) (fields : List Piece) (n : ℕ) : Type 0 where
  pub within : n ≤ length t.rest
  pub ended : (u : List ℕ) × (take n t.rest ≡ u ++ 10 ∷ []) × Unbroken u
  pub whatever : (c : List ℕ) → fields_of form (onwards t (take n t.rest ++ c)) ≡ got fields (next_line t c)

-- the first k bytes stand on one line and can be continued to a line of the form;
-- with one byte more they cannot, whatever follows (where k is all bytes, the text ends too early)
pub record StopsAt (form : Form) (t : Text) (k : ℕ) : Type 0 where
  pub within : k ≤ length t.rest
  pub on_one_line : Unbroken (take k t.rest)
  pub goes_on : (c : List ℕ) × (fields : List Piece) × (fields_of form (onwards t (take k t.rest ++ c)) ≡ got fields (next_line t []))
  pub cannot : k < length t.rest → (c : List ℕ) → fields_of form (onwards t (take (suc k) t.rest ++ c)) ≡ refused 1 t.line (t.byte + k)

-- fields are got from a line, and what is left begins behind it; a refusal has number 1 and the place at which the text stops being a line
abbrev pub Explained : Form → Text → Read (List Piece) → Type 0
Explained form t (got fields u) = (n : ℕ) × IsLine form t fields n × (u ≡ next_line t (drop n t.rest))
Explained form t (refused number line byte) = (k : ℕ) × (number ≡ 1) × (line ≡ t.line) × (byte ≡ t.byte + k) × StopsAt form t k

-- for every form whose key has no newline, and every text
abbrev pub FormLaw : Type 0
FormLaw = (form : Form) → Unbroken form.key → (t : Text) → Explained form t (fields_of form t)
