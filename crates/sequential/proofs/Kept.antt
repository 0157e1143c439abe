-- What a statement that keeps its ranges brings in each iteration. Assumes nothing.
use Rattle.std.proofs.Common.{◌≡◌, ℕ, ◌*◌, ◌<◌, ◌≤◌, true, not, ◌&&◌, ltb, leb, List, length, get_or, mul-le-mul_left, map, sym, ap, ◌∙◌, arith, ltb-true}
use Rattle.std.proofs.lemmas.List.{get_or-map, length-map}
use Rattle.std.proofs.lemmas.Bool.{and_parts, leb-true}
use Rattle.nest.specs.Terms.{far, moved, position, range_of, inside, nowhere, Said}
use Rattle.nest.specs.Views.{said}
use Rattle.nest.specs.Sound.{between, each, range_kept, subscript_kept, access_kept, is_i, read_kept, statement_kept}
use Rattle.nest.specs.declared.terms.Array.{Array}
use Rattle.nest.specs.declared.terms.Range.{Range}
use Rattle.nest.specs.declared.terms.Variable.{Variable}
use Rattle.nest.specs.declared.terms.Variable.TheVariants.{I, J}
use Rattle.nest.specs.declared.terms.Offset.{Offset}
use Rattle.nest.specs.declared.terms.Offset.TheVariants.{Plus, Minus}
use Rattle.nest.specs.declared.terms.Subscript.{Subscript}
use Rattle.nest.specs.declared.terms.Access.{Access}
use Rattle.nest.specs.declared.terms.Statement.{Statement}
use Rattle.nest.specs.declared.terms.ReadTerm.{ReadTerm}
use Rattle.nest.proofs.Keeps.{bounds, each_at}
use Rattle.layout.proofs.Starts.{element_there}
use Rattle.sequential.specs.declared.iteration.Iteration.{Iteration}
use Rattle.sequential.specs.Iterations.{variable_in, position_in}
use Rattle.sequential.specs.Ready.{Within, SmallIn, Reached}

-- the parts of a statement that keeps its ranges
pub record Parts (arrays : List Array) (s : Said) : Type 0 where
  pub i : range_kept s.i ≡ true
  pub j : range_kept s.j ≡ true
  pub by_i : is_i s.put.row.variable ≡ true
  pub by_j : not (is_i s.put.column.variable) ≡ true
  pub put : access_kept 1 arrays s.i s.j s.put ≡ true
  pub base : leb s.base 7 ≡ true
  pub reads : each (read_kept arrays s.i s.j) s.reads ≡ true

pub parts_of : (arrays : List Array) (s : Said) → statement_kept arrays s ≡ true → Parts arrays s
parts_of arrays s k =
    let ranges = range_kept s.i && range_kept s.j in
    let rows = ranges && is_i s.put.row.variable in
    let columns = rows && not (is_i s.put.column.variable) in
    let puts = columns && access_kept 1 arrays s.i s.j s.put in
    let bases = puts && leb s.base 7 in
    let p = and_parts (bases && leb (length s.reads) 4) (each (read_kept arrays s.i s.j) s.reads) k in
    let q = and_parts bases (leb (length s.reads) 4) p.0 in
    let r = and_parts puts (leb s.base 7) q.0 in
    let t = and_parts columns (access_kept 1 arrays s.i s.j s.put) r.0 in
    let u = and_parts rows (not (is_i s.put.column.variable)) t.0 in
    let v = and_parts ranges (is_i s.put.row.variable) u.0 in
    let w = and_parts (range_kept s.i) (range_kept s.j) v.0 in
    record { i = w.0; j = w.1; by_i = v.1; by_j = u.1; put = t.1; base = r.1; reads = p.1 }

pub range_of_lem : (r : Range) → range_kept r ≡ true → (r.low ≤ r.high) × (r.high ≤ 32)
range_of_lem r k =
    let p = and_parts (leb 1 r.low && leb r.low r.high) (leb r.high 32) k in
    let q = and_parts (leb 1 r.low) (leb r.low r.high) p.0 in
    (leb-true r.low r.high q.1, leb-true r.high 32 p.1)

-- positions grow with the variable
moved_up : (o : Offset) (m n : ℕ) → m ≤ n → moved o m ≤ moved o n
moved_up (Plus c) m n h = omega arith
moved_up (Minus c) m n h = omega arith

position_up : (s : Subscript) (v w : ℕ) → v ≤ w → position s v ≤ position s w
position_up s v w h = moved_up s.offset (s.factor * v) (s.factor * w) (mul-le-mul_left s.factor h)

-- an iteration's variable lies in its range
in_range : (x : Variable) (s : Said) (e : Iteration) → Within s e → ((range_of x s.i s.j).low ≤ variable_in x e) × (variable_in x e ≤ (range_of x s.i s.j).high)
in_range I s e w = (w.0, w.1)
in_range J s e w = (w.2, w.3)

range_small : (x : Variable) (i j : Range) → range_kept i ≡ true → range_kept j ≡ true → (range_of x i j).high ≤ 32
range_small I i j p q = (range_of_lem i p).1
range_small J i j p q = (range_of_lem j q).1

pub factor_of : (least : ℕ) (s : Subscript) → subscript_kept least s ≡ true → (least ≤ s.factor) × (s.factor ≤ 4) × (far s.offset ≤ 64)
factor_of least s k =
    let p = and_parts (between least 4 s.factor) (leb (far s.offset) 64) k in
    let q = bounds least 4 s.factor p.0 in
    (q.0, q.1, leb-true (far s.offset) 64 p.1)

pub record AccessParts (least : ℕ) (arrays : List Array) (i j : Range) (a : Access) : Type 0 where
  pub there : a.array < length arrays
  pub row : subscript_kept least a.row ≡ true
  pub column : subscript_kept least a.column ≡ true
  pub rows : inside i j (get_or arrays a.array nowhere).rows a.row ≡ true
  pub columns : inside i j (get_or arrays a.array nowhere).columns a.column ≡ true

pub access_parts : (least : ℕ) (arrays : List Array) (i j : Range) (a : Access) → access_kept least arrays i j a ≡ true → AccessParts least arrays i j a
access_parts least arrays i j a k =
    let there = ltb a.array (length arrays) in
    let rows = inside i j (get_or arrays a.array nowhere).rows a.row in
    let columns = inside i j (get_or arrays a.array nowhere).columns a.column in
    let p = and_parts (there && subscript_kept least a.row && subscript_kept least a.column && rows) columns k in
    let q = and_parts (there && subscript_kept least a.row && subscript_kept least a.column) rows p.0 in
    let r = and_parts (there && subscript_kept least a.row) (subscript_kept least a.column) q.0 in
    let t = and_parts there (subscript_kept least a.row) r.0 in
    record { there = omega (arith, ltb-true a.array (length arrays) t.0); row = t.1; column = r.1; rows = q.1; columns = p.1 }

module _ (arrays : List Array) (s : Said) (kept : Parts arrays s) (e : Iteration) (within : Within s e) where
  -- a subscript that stays inside at both ends of its range stays inside
  pub inside_at : (size : ℕ) (x : Subscript) → inside s.i s.j size x ≡ true → (1 ≤ position_in x e) × (position_in x e ≤ size)
  inside_at size x k =
      let low = position x (range_of x.variable s.i s.j).low in
      let high = position x (range_of x.variable s.i s.j).high in
      let p = and_parts (leb 1 low) (leb high size) k in
      let v = in_range x.variable s e within in (
        omega (arith, leb-true 1 low p.0, position_up x (range_of x.variable s.i s.j).low (variable_in x.variable e) v.0),
        omega (arith, leb-true high size p.1, position_up x (variable_in x.variable e) (range_of x.variable s.i s.j).high v.1),
      )

  small_at : (least : ℕ) (x : Subscript) → subscript_kept least x ≡ true → SmallIn x e
  small_at least x k =
      let f = factor_of least x k in
      (f.1, omega (arith, (in_range x.variable s e within).1, range_small x.variable s.i s.j kept.i kept.j), f.2)

  -- an access that is kept names an element in each iteration
  pub reached : (least : ℕ) (a : Access) → access_kept least arrays s.i s.j a ≡ true → Reached arrays a e
  reached least a k =
      let p = access_parts least arrays s.i s.j a k in
      let x = inside_at (get_or arrays a.array nowhere).rows a.row p.rows in
      let y = inside_at (get_or arrays a.array nowhere).columns a.column p.columns in
      record {
        element = element_there arrays a.array (position_in a.row e) (position_in a.column e) p.there x.0 x.1 y.0 y.1;
        row = small_at least a.row p.row;
        column = small_at least a.column p.column;
      }

  -- the target
  pub target_reached : Reached arrays s.put e
  target_reached = reached 1 s.put kept.put

  -- a read
  pub read_reached : (items : List ReadTerm) → items ≡ s.reads → (n : ℕ) (d : ReadTerm) → n < length items → Reached arrays (get_or items n d).source e
  read_reached items same n d h =
      let r = get_or items n d in
      reached 0 r.source (and_parts (leb r.coefficient 7) (access_kept 0 arrays s.i s.j r.source) (each_at (read_kept arrays s.i s.j) items (rw same kept.reads) n d h)).1

-- the coefficient of a read is one of the eight
pub read_coefficient : (arrays : List Array) (s : Said) → Parts arrays s → (items : List ReadTerm) → items ≡ s.reads → (n : ℕ) (d : ReadTerm) (eight : ℕ) → eight ≡ 8 → n < length items → (get_or items n d).coefficient < eight
read_coefficient arrays s kept items same n d eight e h =
    let r = get_or items n d in
    omega (arith, leb-true r.coefficient 7 (and_parts (leb r.coefficient 7) (access_kept 0 arrays s.i s.j r.source) (each_at (read_kept arrays s.i s.j) items (rw same kept.reads) n d h)).0)

-- so is the base coefficient
pub base_below : (arrays : List Array) (s : Said) → Parts arrays s → (eight : ℕ) → eight ≡ 8 → s.base < eight
base_below arrays s kept eight e = omega (arith, leb-true s.base 7 kept.base)

-- one statement of a list
pub statement_at : (arrays : List Array) (items : List Statement) (n : ℕ) (item : Statement)
    → each (statement_kept arrays) (map said items) ≡ true → n < length items → item ≡ get_or items n item → statement_kept arrays (said item) ≡ true
statement_at arrays items n item all below is =
    let lies : get_or (map said items) n (said item) ≡ said item = get_or-map said items n item (said item) below ∙ ap said (sym is) in
    ap (statement_kept arrays) (sym lies) ∙ each_at (statement_kept arrays) (map said items) all n (said item) (rw (length-map items said) below)
