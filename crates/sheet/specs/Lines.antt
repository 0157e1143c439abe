-- The sheet, line after line: what it says, or its first fault. Assumes nothing.
use Rattle.std.specs.Prelude.{ℕ, zero, suc, List, [], ◌∷◌}
use Rattle.tokens.specs.Texts.{Text, Piece, Read, got, refused, then, Form, fields_of, nothing_left}
use Rattle.nest.specs.Terms.{Said, Sheet}
use Rattle.nest.specs.declared.terms.Array.{Array}
use Rattle.sheet.specs.Forms.{grid_form, arrays_form, array_form, sweeps_form, stmts_form, stmt_form, put_form, base_form, reads_form, read_form}
use Rattle.sheet.specs.Verdicts.{Verdict, fine, wrong, grid_of, array_of, head_of, put_of, read_of, count_of}

-- first the one, and then, with its value, the other on the text behind it
infixl 20 ◌>>=◌
abbrev pub ◌>>=◌ : {V W : Type 0} → (Text → Read V) → (V → Text → Read W) → Text → Read W
◌>>=◌ first next t = then (first t) next

-- a verdict on the fields of a line that has been read
abbrev pub judged : {V : Type 0} → Verdict V → Text → Read V
judged (fine v) t = got v t
judged (wrong number line byte) t = refused number line byte

-- a line: its form first, and then what its fields say
abbrev pub line_by : {V : Type 0} → Form → (List Piece → Verdict V) → Text → Read V
line_by form rule t = then (fields_of form t) (λ fields u. judged (rule fields) u)

-- so many times, one after the other
abbrev pub times : {V : Type 0} → ℕ → (Text → Read V) → Text → Read (List V)
times zero one t = got [] t
times (suc n) one t = then (one t) (λ v u. then (times n one u) (λ vs w. got (v ∷ vs) w))

-- the lines of a statement
abbrev pub statement_of : List Array → Text → Read Said
statement_of arrays = do
  head ← line_by stmt_form head_of
  put ← line_by put_form (put_of arrays head)
  base ← line_by base_form (count_of 0 7)
  count ← line_by reads_form (count_of 0 4)
  reads ← times count (line_by read_form (read_of arrays head))
  got (record { mode = head.mode; i = head.i; j = head.j; put = put; base = base; reads = reads })

-- the lines of a sheet
abbrev pub lines_of : Text → Read Sheet
lines_of = do
  grid ← line_by grid_form grid_of
  count ← line_by arrays_form (count_of 1 4)
  arrays ← times count (line_by array_form array_of)
  sweeps ← line_by sweeps_form (count_of 0 1000)
  number ← line_by stmts_form (count_of 1 8)
  statements ← times number (statement_of arrays)
  _ ← (λ t. nothing_left t.rest t)
  got (record { grid = grid; arrays = arrays; sweeps = sweeps; statements = statements })

-- the value of a reading, or its refusal
abbrev pub verdict : {V : Type 0} → Read V → Verdict V
verdict (got v t) = fine v
verdict (refused number line byte) = wrong number line byte

-- the beginning of a sheet
abbrev pub start : List ℕ → Text
start bytes = record { rest = bytes; line = 1; byte = 1 }

-- the nest that a sheet describes, or its first fault
abbrev pub verdict_on : List ℕ → Verdict Sheet
verdict_on bytes = verdict (lines_of (start bytes))
