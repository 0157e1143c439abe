-- What the fields of a line are refused for, and where: a number from 2 to 6, at one of the fields. Assumes nothing.
use Rattle.std.proofs.Common.{◌≡◌, ℕ, ◌<◌, ◌≤◌, List, length, arith}
use Rattle.std.specs.List.{AllByRecursion}
use Rattle.std.proofs.ByRecursion.{All-get_or}
use Rattle.std.proofs.lemmas.Grind.{common_steps}
use Rattle.tokens.specs.Texts.{Piece}
use Rattle.nest.specs.declared.terms.Array.{Array}
use Rattle.nest.specs.declared.terms.Range.{Range}
use Rattle.nest.specs.declared.terms.Variable.{Variable}
use Rattle.nest.specs.declared.terms.Variable.TheVariants.{I, J}
use Rattle.nest.specs.declared.terms.Subscript.{Subscript}
use Rattle.sheet.specs.Verdicts.{Verdict, fine, wrong, ◌>>=◌, nth, within, offset_of, map_of, variable_of, subscript_of, access_of, grid_of, array_of, range_from, Head, head_of, put_of, read_of, count_of}

-- a value, or a refusal with a number from 2 to 6 at such a place
abbrev pub Faulted : {V : Type 0} → (ℕ → ℕ → Type 0) → Verdict V → Type 0
Faulted At (fine v) = Unit {0}
Faulted At (wrong number line byte) = (2 ≤ number) × (number ≤ 6) × At line byte

-- so many fields, each at such a place
abbrev pub Fielded : (ℕ → ℕ → Type 0) → ℕ → List Piece → Type 0
Fielded At n fields = (length fields ≡ n) × AllByRecursion (λ p. At p.line p.byte) fields

-- a rule for so many fields, which refuses at the places of fields only
abbrev pub RuleLaw : {V : Type 0} → ℕ → (List Piece → Verdict V) → Type 1
RuleLaw n rule = (At : ℕ → ℕ → Type 0) (fields : List Piece) → Fielded At n fields → Faulted At (rule fields)

module _ (At : ℕ → ℕ → Type 0) where
  bound : {V W : Type 0} (x : Verdict V) (f : V → Verdict W) → Faulted At x → ((v : V) → Faulted At (f v)) → Faulted At (◌>>=◌ x f)
  bound (fine v) f h k = k v
  bound (wrong number line byte) f h k = h

  within_faulted : (low high : ℕ) (p : Piece) → At p.line p.byte → Faulted At (within low high p)
  within_faulted low high p h = grind (arith, common_steps, h)

  offset_faulted : (p : Piece) → At p.line p.byte → Faulted At (offset_of p)
  offset_faulted p h = bound (within 0 64 p) _ (within_faulted 0 64 p h) (λ n. tt)

  map_faulted : (p : Piece) → At p.line p.byte → Faulted At (map_of p)
  map_faulted p h = grind (arith, common_steps, h)

  subscript_faulted : (least : ℕ) (v : Variable) (p q : Piece) → At p.line p.byte → At q.line q.byte → Faulted At (subscript_of least v p q)
  subscript_faulted least v p q hp hq = bound (within least 4 p) _ (within_faulted least 4 p hp) (λ a. bound (offset_of q) _ (offset_faulted q hq) (λ m. tt))

  access_faulted : (arrays : List Array) (i j : Range) (p : Piece) (t : ℕ) (q : Piece) (row : Subscript) (r : Piece) (column : Subscript)
      → At p.line p.byte → At q.line q.byte → At r.line r.byte → Faulted At (access_of arrays i j p t q row r column)
  access_faulted arrays i j p t q row r column hp hq hr = grind (arith, common_steps, hp, hq, hr)

  range_faulted : (p : Piece) (low high : ℕ) → At p.line p.byte → Faulted At (range_from p low high)
  range_faulted p low high h = grind (arith, common_steps, h)

  module _ (n : ℕ) (f : List Piece) (h : Fielded At n f) where
    field_at : (k : ℕ) → k < n → At (nth k f).line (nth k f).byte
    field_at k l = All-get_or (λ p. At p.line p.byte) f k _ (omega (arith, h.0)) h.1

    number_at : (low high k : ℕ) → k < n → Faulted At (within low high (nth k f))
    number_at low high k l = within_faulted low high (nth k f) (field_at k l)

    subscript_at : (least : ℕ) (v : Variable) (k l : ℕ) → k < n → l < n → Faulted At (subscript_of least v (nth k f) (nth l f))
    subscript_at least v k l hk hl = subscript_faulted least v (nth k f) (nth l f) (field_at k hk) (field_at l hl)

pub count_rule : (low high : ℕ) → RuleLaw 1 (count_of low high)
count_rule low high At f h = number_at At 1 f h low high 0 (omega arith)

pub grid_rule : RuleLaw 2 grid_of
grid_rule At f h =
    bound At (within 1 8 (nth 0 f)) _ (number_at At 2 f h 1 8 0 (omega arith)) (λ rows.
    bound At (within 1 8 (nth 1 f)) _ (number_at At 2 f h 1 8 1 (omega arith)) (λ columns.
    let at = field_at At 2 f h 0 (omega arith) in grind (arith, common_steps, at)))

pub array_rule : RuleLaw 4 array_of
array_rule At f h =
    bound At (within 1 32 (nth 0 f)) _ (number_at At 4 f h 1 32 0 (omega arith)) (λ rows.
    bound At (within 1 32 (nth 1 f)) _ (number_at At 4 f h 1 32 1 (omega arith)) (λ columns.
    bound At (map_of (nth 2 f)) _ (map_faulted At (nth 2 f) (field_at At 4 f h 2 (omega arith))) (λ by_rows.
    bound At (map_of (nth 3 f)) _ (map_faulted At (nth 3 f) (field_at At 4 f h 3 (omega arith))) (λ by_columns. tt))))

pub head_rule : RuleLaw 5 head_of
head_rule At f h =
    bound At (within 1 32 (nth 1 f)) _ (number_at At 5 f h 1 32 1 (omega arith)) (λ a.
    bound At (within 1 32 (nth 2 f)) _ (number_at At 5 f h 1 32 2 (omega arith)) (λ b.
    bound At (within 1 32 (nth 3 f)) _ (number_at At 5 f h 1 32 3 (omega arith)) (λ c.
    bound At (within 1 32 (nth 4 f)) _ (number_at At 5 f h 1 32 4 (omega arith)) (λ d.
    bound At (range_from (nth 1 f) a b) _ (range_faulted At (nth 1 f) a b (field_at At 5 f h 1 (omega arith))) (λ i.
    bound At (range_from (nth 3 f) c d) _ (range_faulted At (nth 3 f) c d (field_at At 5 f h 3 (omega arith))) (λ j. tt))))))

pub put_rule : (arrays : List Array) (head : Head) → RuleLaw 5 (put_of arrays head)
put_rule arrays head At f h =
    bound At (within 1 4 (nth 0 f)) _ (number_at At 5 f h 1 4 0 (omega arith)) (λ t.
    bound At (subscript_of 1 I (nth 1 f) (nth 2 f)) _ (subscript_at At 5 f h 1 I 1 2 (omega arith) (omega arith)) (λ row.
    bound At (subscript_of 1 J (nth 3 f) (nth 4 f)) _ (subscript_at At 5 f h 1 J 3 4 (omega arith) (omega arith)) (λ column.
    access_faulted At arrays head.i head.j (nth 0 f) t (nth 1 f) row (nth 3 f) column (field_at At 5 f h 0 (omega arith)) (field_at At 5 f h 1 (omega arith)) (field_at At 5 f h 3 (omega arith)))))

pub read_rule : (arrays : List Array) (head : Head) → RuleLaw 8 (read_of arrays head)
read_rule arrays head At f h =
    bound At (within 0 7 (nth 0 f)) _ (number_at At 8 f h 0 7 0 (omega arith)) (λ k.
    bound At (within 1 4 (nth 1 f)) _ (number_at At 8 f h 1 4 1 (omega arith)) (λ t.
    bound At (subscript_of 0 (variable_of (nth 2 f)) (nth 3 f) (nth 4 f)) _ (subscript_at At 8 f h 0 (variable_of (nth 2 f)) 3 4 (omega arith) (omega arith)) (λ row.
    bound At (subscript_of 0 (variable_of (nth 5 f)) (nth 6 f) (nth 7 f)) _ (subscript_at At 8 f h 0 (variable_of (nth 5 f)) 6 7 (omega arith) (omega arith)) (λ column.
    bound At (access_of arrays head.i head.j (nth 1 f) t (nth 3 f) row (nth 6 f) column) _
    (access_faulted At arrays head.i head.j (nth 1 f) t (nth 3 f) row (nth 6 f) column (field_at At 8 f h 1 (omega arith)) (field_at At 8 f h 3 (omega arith)) (field_at At 8 f h 6 (omega arith))) (λ x. tt)))))
