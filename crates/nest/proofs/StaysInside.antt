-- No subscript of an accepted nest leaves its array. Assumes nothing.
use Rattle.std.proofs.Common.{◌≡◌, ℕ, ◌*◌, ◌≤◌, Bool, true, ltb, leb, List, [], ◌∷◌, length, get_or, mul-le-mul_left, arith}
use Rattle.std.specs.List.{AllByRecursion}
use Rattle.std.proofs.lemmas.Bool.{and_parts, leb-true, ltb-true}
use Rattle.nest.specs.declared.terms.Array.{Array}
use Rattle.nest.specs.declared.terms.Range.{Range}
use Rattle.nest.specs.declared.terms.Variable.{Variable}
use Rattle.nest.specs.declared.terms.Variable.TheVariants.{I, J}
use Rattle.nest.specs.declared.terms.Offset.{Offset}
use Rattle.nest.specs.declared.terms.Offset.TheVariants.{Plus, Minus}
use Rattle.nest.specs.declared.terms.Subscript.{Subscript}
use Rattle.nest.specs.declared.terms.Access.{Access}
use Rattle.nest.specs.Terms.{moved, position, range_of, inside, nowhere, Said, Sheet}
use Rattle.nest.specs.Sound.{each, access_kept, read_kept, statement_kept, nest_kept}
use Rattle.nest.specs.Inside.{RunsThrough, value_of, Within, Reaches, StatementInside, StaysInside}

-- positions grow with the variable
moved_grows : (o : Offset) (m n : ℕ) → m ≤ n → moved o m ≤ moved o n
moved_grows (Plus c) m n h = omega arith
moved_grows (Minus c) m n h = omega arith

position_grows : (s : Subscript) (v w : ℕ) → v ≤ w → position s v ≤ position s w
position_grows s v w h = moved_grows s.offset (s.factor * v) (s.factor * w) (mul-le-mul_left s.factor h)

variable_runs : (x : Variable) (ri rj : Range) (i j : ℕ) → RunsThrough ri i → RunsThrough rj j → RunsThrough (range_of x ri rj) (value_of x i j)
variable_runs I ri rj i j h k = h
variable_runs J ri rj i j h k = k

module _ (arrays : List Array) (ri rj : Range) (i j : ℕ) (hi : RunsThrough ri i) (hj : RunsThrough rj j) where
  inside_within : (size : ℕ) (s : Subscript) → inside ri rj size s ≡ true → Within size (position s (value_of s.variable i j))
  inside_within size s e =
      let a = and_parts (leb 1 (position s (range_of s.variable ri rj).low)) (leb (position s (range_of s.variable ri rj).high) size) e in
      let low = leb-true 1 (position s (range_of s.variable ri rj).low) a.0 in
      let high = leb-true (position s (range_of s.variable ri rj).high) size a.1 in
      let runs = variable_runs s.variable ri rj i j hi hj in
      let up = position_grows s _ _ runs.0 in
      let down = position_grows s _ _ runs.1 in
      (omega arith, omega arith)

  access_reaches : (least : ℕ) (a : Access) → access_kept least arrays ri rj a ≡ true → Reaches arrays i j a
  access_reaches least a e =
      let rows = (get_or arrays a.array nowhere).rows in
      let columns = (get_or arrays a.array nowhere).columns in
      let p = and_parts _ (inside ri rj columns a.column) e in
      let q = and_parts _ (inside ri rj rows a.row) p.0 in
      let b = and_parts _ _ q.0 in
      let d = and_parts (ltb a.array (length arrays)) _ b.0 in
      record { there = ltb-true a.array (length arrays) d.0; row = inside_within rows a.row q.1; column = inside_within columns a.column p.1 }

each_all : {X : Type 0} (f : X → Bool) (P : X → Type 0) → ((x : X) → f x ≡ true → P x) → (xs : List X) → each f xs ≡ true → AllByRecursion P xs
each_all f P h [] e = tt
each_all f P h (x ∷ xs) e = let a = and_parts (f x) (each f xs) e in (h x a.0, each_all f P h xs a.1)

statement_inside : (arrays : List Array) (s : Said) → statement_kept arrays s ≡ true → StatementInside arrays s
statement_inside arrays s e =
    let a = and_parts _ (each (read_kept arrays s.i s.j) s.reads) e in
    let b = and_parts _ _ a.0 in
    let c = and_parts _ _ b.0 in
    let d = and_parts _ (access_kept 1 arrays s.i s.j s.put) c.0 in
    record {
      target = λ i j hi hj. access_reaches arrays s.i s.j i j hi hj 1 s.put d.1;
      reads = each_all (read_kept arrays s.i s.j) _ (λ r k i j hi hj. access_reaches arrays s.i s.j i j hi hj 0 r.source (and_parts _ (access_kept 0 arrays s.i s.j r.source) k).1) s.reads a.1;
    }

-- a nest that keeps its ranges stays inside its arrays
pub kept_inside : (nest : Sheet) → nest_kept nest.grid nest.arrays nest.sweeps nest.statements ≡ true → StaysInside nest
kept_inside nest e =
    each_all (statement_kept nest.arrays) (StatementInside nest.arrays) (statement_inside nest.arrays) nest.statements
    (and_parts _ (each (statement_kept nest.arrays) nest.statements) e).1
