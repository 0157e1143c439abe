-- What the fields of a line say, once the line has its form. Assumes nothing.
use Rattle.std.specs.Prelude.{ℕ, ◌-◌, ◌*◌, ◌≤◌, cond, List, [], length, get_or, nat_le, slice_index_or}
use Rattle.tokens.specs.Texts.{Piece}
use Rattle.tokens.specs.Values.{magnitude, begins_with}
use Rattle.nest.specs.Terms.{far, inside, nowhere}
use Rattle.nest.specs.declared.terms.Grid.{Grid}
use Rattle.nest.specs.declared.terms.MapWord.{MapWord}
use Rattle.nest.specs.declared.terms.MapWord.TheVariants.{One, Block, Cyclic, CyclicBy}
use Rattle.nest.specs.declared.terms.Array.{Array}
use Rattle.nest.specs.declared.terms.Mode.{Mode}
use Rattle.nest.specs.declared.terms.Mode.TheVariants.{All, Seq}
use Rattle.nest.specs.declared.terms.Range.{Range}
use Rattle.nest.specs.declared.terms.Variable.{Variable}
use Rattle.nest.specs.declared.terms.Variable.TheVariants.{I, J}
use Rattle.nest.specs.declared.terms.Offset.{Offset}
use Rattle.nest.specs.declared.terms.Offset.TheVariants.{Plus, Minus}
use Rattle.nest.specs.declared.terms.Subscript.{Subscript}
use Rattle.nest.specs.declared.terms.Access.{Access}
use Rattle.nest.specs.declared.terms.ReadTerm.{ReadTerm}

-- a value, or a refusal by its number and place
pub data Verdict (V : Type 0) : Type 0 where
  fine : V → Verdict V
  wrong : ℕ → ℕ → ℕ → Verdict V

infixl 20 ◌>>=◌
-- first the one, and then, with its value, the other
abbrev pub ◌>>=◌ : {V W : Type 0} → Verdict V → (V → Verdict W) → Verdict W
fine v >>= f = f v
wrong number line byte >>= f = wrong number line byte

-- a refusal at the first byte of a field
abbrev pub wrong_at : {V : Type 0} → ℕ → Piece → Verdict V
wrong_at number p = wrong number p.line p.byte

-- the field of a line, counted from 0
abbrev pub nth : ℕ → List Piece → Piece
nth k fields = slice_index_or fields k (record { text = []; line = 0; byte = 0 })

-- a number from low to high; refusal 2 outside
abbrev pub within : ℕ → ℕ → Piece → Verdict ℕ
within low high p = cond (nat_le low (magnitude p.text)) (cond (nat_le (magnitude p.text) high) (fine (magnitude p.text)) (wrong_at 2 p)) (wrong_at 2 p)

-- a number from -64 to 64; a minus is byte 45
abbrev pub offset_of : Piece → Verdict Offset
offset_of p = do
  n ← within 0 64 p
  fine (cond (begins_with 45 p.text) (Minus n) (Plus n))

-- the word of a map, by its first letter, and the width behind `cyclic:`, which is from 1 to 32
abbrev pub map_of : Piece → Verdict MapWord
map_of p =
    cond (begins_with 111 p.text) (fine One)
    (cond (begins_with 98 p.text) (fine Block)
    (cond (nat_le (length p.text) 6) (fine Cyclic) (within 1 32 p >>= λ k. fine (CyclicBy k))))

-- `all` or `seq`, by its first letter
abbrev pub mode_of : Piece → Mode
mode_of p = cond (begins_with 97 p.text) All Seq

-- `i` or `j`
abbrev pub variable_of : Piece → Variable
variable_of p = cond (begins_with 105 p.text) I J

-- a range within 1 to 32
abbrev pub Short : Range → Type 0
Short r = (1 ≤ r.low) × (r.low ≤ r.high) × (r.high ≤ 32)

-- a subscript with a factor up to 4 and an offset up to 64 either way
abbrev pub Near : Subscript → Type 0
Near s = (s.factor ≤ 4) × (far s.offset ≤ 64)

-- an element: refusal 4 where the nest has no such array, 6 where the row subscript leaves it, then the column subscript
abbrev pub access_of : List Array → Range → Range → Piece → ℕ → Piece → Subscript → Piece → Subscript → Verdict Access
access_of arrays i j p t r row c column =
    cond (nat_le t (length arrays))
    (cond (inside i j (get_or arrays (t - 1) nowhere).rows row)
    (cond (inside i j (get_or arrays (t - 1) nowhere).columns column) (fine (record { array = t - 1; row = row; column = column })) (wrong_at 6 c))
    (wrong_at 6 r))
    (wrong_at 4 p)

-- `grid`: refusal 3, at the rows, where the boards are more than 8
abbrev pub grid_of : List Piece → Verdict Grid
grid_of f = do
  rows ← within 1 8 (nth 0 f)
  columns ← within 1 8 (nth 1 f)
  cond (nat_le (rows * columns) 8) (fine (record { rows = rows; columns = columns })) (wrong_at 3 (nth 0 f))

-- `array`
abbrev pub array_of : List Piece → Verdict Array
array_of f = do
  rows ← within 1 32 (nth 0 f)
  columns ← within 1 32 (nth 1 f)
  by_rows ← map_of (nth 2 f)
  by_columns ← map_of (nth 3 f)
  fine (record { rows = rows; columns = columns; row_map = by_rows; column_map = by_columns })

-- a range whose ends are given: refusal 5, at the lower end, where it is above the higher
abbrev pub range_from : Piece → ℕ → ℕ → Verdict Range
range_from p low high = cond (nat_le low high) (fine (record { low = low; high = high })) (wrong_at 5 p)

-- what a `stmt` line says
pub record Head : Type 0 where
  pub mode : Mode
  pub i : Range
  pub j : Range

-- `stmt`
abbrev pub head_of : List Piece → Verdict Head
head_of f = do
  a ← within 1 32 (nth 1 f)
  b ← within 1 32 (nth 2 f)
  c ← within 1 32 (nth 3 f)
  d ← within 1 32 (nth 4 f)
  i ← range_from (nth 1 f) a b
  j ← range_from (nth 3 f) c d
  fine (record { mode = mode_of (nth 0 f); i = i; j = j })

-- a subscript: its factor from least to 4, then its offset
abbrev pub subscript_of : ℕ → Variable → Piece → Piece → Verdict Subscript
subscript_of least variable p q = do
  factor ← within least 4 p
  offset ← offset_of q
  fine (record { variable = variable; factor = factor; offset = offset })

-- `put`
abbrev pub put_of : List Array → Head → List Piece → Verdict Access
put_of arrays h f = do
  t ← within 1 4 (nth 0 f)
  row ← subscript_of 1 I (nth 1 f) (nth 2 f)
  column ← subscript_of 1 J (nth 3 f) (nth 4 f)
  access_of arrays h.i h.j (nth 0 f) t (nth 1 f) row (nth 3 f) column

-- `read`
abbrev pub read_of : List Array → Head → List Piece → Verdict ReadTerm
read_of arrays h f = do
  k ← within 0 7 (nth 0 f)
  t ← within 1 4 (nth 1 f)
  row ← subscript_of 0 (variable_of (nth 2 f)) (nth 3 f) (nth 4 f)
  column ← subscript_of 0 (variable_of (nth 5 f)) (nth 6 f) (nth 7 f)
  x ← access_of arrays h.i h.j (nth 1 f) t (nth 3 f) row (nth 6 f) column
  fine (record { coefficient = k; source = x })

-- a line with one number
abbrev pub count_of : ℕ → ℕ → List Piece → Verdict ℕ
count_of low high f = within low high (nth 0 f)
