-- The orders of a nest that keeps its ranges are for statements, reads and arrays that are there. Assumes nothing.
use Rattle.std.proofs.Common.{◌≡◌, ℕ, suc, ◌+◌, ◌<◌, ◌≤◌, Bool, true, cond, ◌&&◌, eqb, ltb, leb, List, [], ◌∷◌, ◌++◌, map, length, get_or, sym, refl, ap, ◌∙◌, subst, arith, Option, Some, None}
use Rattle.std.specs.List.{range_with_len, AllByRecursion}
use Rattle.std.proofs.lemmas.List.FromFn.{length-map-range_with_len}
use Rattle.std.proofs.ByRecursion.{All-append, All-map, All-weaker}
use Rattle.std.proofs.lemmas.Bool.{and_parts, and_from, cond_both, eq-eqb, le-leb, lt-ltb}
use Rattle.nest.specs.Sound.{each, between, subscript_kept, access_kept, read_kept, statement_kept, nest_kept}
use Rattle.nest.specs.Terms.{far, Said, Sheet}
use Rattle.nest.specs.declared.terms.Access.{Access}
use Rattle.nest.specs.declared.terms.Array.{Array}
use Rattle.nest.specs.declared.terms.Mode.{Mode}
use Rattle.nest.specs.declared.terms.Mode.TheVariants.{All as AllAtOnce, Seq}
use Rattle.nest.specs.declared.terms.Range.{Range}
use Rattle.nest.specs.declared.terms.ReadTerm.{ReadTerm}
use Rattle.nest.specs.declared.terms.Subscript.{Subscript}
use Rattle.nest.specs.declared.terms.Variable.{Variable}
use Rattle.nest.specs.declared.terms.Variable.TheVariants.{I, J}
use Rattle.nest.proofs.Keeps.{each_at, nest_parts}
use Rattle.sections.specs.Sections.{Deals}
use Rattle.sequential.proofs.Kept.{Parts, parts_of, factor_of, access_parts}
use Rattle.dealing.specs.declared.dimension.Dimension.TheVariants.{Rows, Columns}
use Rattle.compiler.specs.declared.span.Owning.{Owning}
use Rattle.compiler.specs.declared.order.Order.{Order}
use Rattle.compiler.specs.declared.order.Task.{Task}
use Rattle.compiler.specs.declared.order.Task.TheVariants.{Ship, Base, Add, Store}
use Rattle.compiler.specs.Spans.{Seat, seat, span_of, owning_by, moves_with, ship_owning}
use Rattle.compiler.specs.Orders.{numbered, tasks_of, i_owning, j_owning, task_order, walk_order, orders_by, orders_for, board_orders}
use Rattle.compiler.specs.Compiled.{board_of}
use Rattle.compiler.specs.Keeping.{no_statement, statement_at, span_kept, task_kept, work_kept, order_kept, board_kept, program_kept}
use Rattle.compiler.specs.Totals.{boards_of}
use Rattle.compiler.proofs.CellCounts.{every}
use Rattle.compiler.proofs.JoinedSums.{all_joined}
use Rattle.compiler.proofs.TaskSpans.{moves_by}

-- what holds of each of a list at its index holds of each with its number
numbered_all : {X : Type 0} (P : ℕ → X → Type 0) (d : X) (a : ℕ) (xs : List X) → ((i : ℕ) → i < length xs → P (a + i) (get_or xs i d)) → AllByRecursion (λ kx. P kx.0 kx.1) (numbered a xs)
numbered_all P d a [] h = tt
numbered_all P d a (x ∷ xs) h = (
  let e : a + 0 ≡ a = omega arith in subst (λ k. P k x) e (h 0 (omega arith)),
  numbered_all P d (a + 1) xs (λ i l. let e : a + suc i ≡ a + 1 + i = omega arith in subst (λ k. P k (get_or xs i d)) e (h (suc i) (omega arith))),
)

-- a test that all pass
pub all_each : {X : Type 0} (f : X → Bool) (xs : List X) → AllByRecursion (λ x. f x ≡ true) xs → each f xs ≡ true
all_each f [] h = refl
all_each f (x ∷ xs) h = and_from (f x) (each f xs) h.0 (all_each f xs h.1)

pub each_all : {X : Type 0} (f : X → Bool) (xs : List X) → each f xs ≡ true → AllByRecursion (λ x. f x ≡ true) xs
each_all f [] k = tt
each_all f (x ∷ xs) k = let p = and_parts (f x) (each f xs) k in (p.0, each_all f xs p.1)

-- a kept subscript that moves
moving : (least : ℕ) (x : Subscript) → subscript_kept least x ≡ true → 1 ≤ x.factor → subscript_kept 1 x ≡ true
moving least x k h =
    let f = factor_of least x k in
    and_from (between 1 4 x.factor) (leb (far x.offset) 64) (and_from (leb 1 x.factor) (leb x.factor 4) (le-leb 1 x.factor h) (le-leb x.factor 4 f.1)) (le-leb (far x.offset) 64 f.2)

module _ (arrays : List Array) (i j : Range) (b : Seat) (r : Range) where
  -- the spans of a range
  abbrev Keeps : Option Owning → Type 0
  Keeps k = span_kept arrays r (span_of b k r) ≡ true

  plain_kept : Keeps None
  plain_kept = and_from (leb r.low r.low) (leb (r.high + 1) (r.high + 1)) (le-leb r.low r.low (omega arith)) (le-leb (r.high + 1) (r.high + 1) (omega arith))

  module _ (least : ℕ) (a : Access) (k : access_kept least arrays i j a ≡ true) where
    rows_kept : 1 ≤ a.row.factor → Keeps (Some (owning_by Rows a))
    rows_kept h =
        let p = access_parts least arrays i j a k in
        and_from (ltb a.array (length arrays)) (subscript_kept 1 a.row) (lt-ltb a.array (length arrays) p.there) (moving least a.row p.row h)

    columns_kept : 1 ≤ a.column.factor → Keeps (Some (owning_by Columns a))
    columns_kept h =
        let p = access_parts least arrays i j a k in
        and_from (ltb a.array (length arrays)) (subscript_kept 1 a.column) (lt-ltb a.array (length arrays) p.there) (moving least a.column p.column h)

    ship_kept : (v : Variable) → Keeps (ship_owning v a)
    ship_kept v =
        cond_both (moves_with v a.row) (Some (owning_by Rows a)) (cond (moves_with v a.column) (Some (owning_by Columns a)) None) Keeps (λ m. rows_kept (moves_by v a.row m).1)
        (λ _. cond_both (moves_with v a.column) (Some (owning_by Columns a)) None Keeps (λ m. columns_kept (moves_by v a.column m).1) (λ _. plain_kept))

-- of a statement that keeps its ranges
module _ (arrays : List Array) (s : Said) (kept : Parts arrays s) (b : Seat) where
  put_rows : span_kept arrays s.i (span_of b (Some (owning_by Rows s.put)) s.i) ≡ true
  put_rows = rows_kept arrays s.i s.j b s.i 1 s.put kept.put (factor_of 1 s.put.row (access_parts 1 arrays s.i s.j s.put kept.put).row).0

  put_columns : span_kept arrays s.j (span_of b (Some (owning_by Columns s.put)) s.j) ≡ true
  put_columns = columns_kept arrays s.i s.j b s.j 1 s.put kept.put (factor_of 1 s.put.column (access_parts 1 arrays s.i s.j s.put kept.put).column).0

  source_kept : (r : ReadTerm) → read_kept arrays s.i s.j r ≡ true → access_kept 0 arrays s.i s.j r.source ≡ true
  source_kept r k = (and_parts (leb r.coefficient 7) (access_kept 0 arrays s.i s.j r.source) k).1

  i_kept : (t : Task) → task_kept arrays s t ≡ true → span_kept arrays s.i (span_of b (i_owning s t) s.i) ≡ true
  i_kept (Ship r) k = ship_kept arrays s.i s.j b s.i 0 r.source (source_kept r k) I
  i_kept Base k = put_rows
  i_kept (Add r) k = put_rows
  i_kept Store k = put_rows

  j_kept : (t : Task) → task_kept arrays s t ≡ true → span_kept arrays s.j (span_of b (j_owning s t) s.j) ≡ true
  j_kept (Ship r) k = ship_kept arrays s.i s.j b s.j 0 r.source (source_kept r k) J
  j_kept Base k = put_columns
  j_kept (Add r) k = put_columns
  j_kept Store k = put_columns

  -- all its tasks are kept
  tasks_kept : AllByRecursion (λ t. task_kept arrays s t ≡ true) (tasks_of s)
  tasks_kept =
      let reads = each_all (read_kept arrays s.i s.j) s.reads kept.reads in
      All-append (λ t. task_kept arrays s t ≡ true) (map Ship s.reads) (Base ∷ (map Add s.reads ++ (Store ∷ []))) (All-map (λ t. task_kept arrays s t ≡ true) Ship s.reads reads)
      (refl, All-append (λ t. task_kept arrays s t ≡ true) (map Add s.reads) (Store ∷ []) (All-map (λ t. task_kept arrays s t ≡ true) Add s.reads reads) (refl, tt))

  -- so are its orders, where it is statement k
  module _ (statements : List Said) (k : ℕ) (there : k < length statements) (at : statement_at statements k ≡ s) where
    order_kept_lem : (o : Order) → o.statement ≡ k → work_kept arrays s o.work ≡ true → span_kept arrays s.i o.i ≡ true → span_kept arrays s.j o.j ≡ true → order_kept arrays statements o ≡ true
    order_kept_lem o e work i j =
        let its : s ≡ statement_at statements o.statement = sym at ∙ ap (statement_at statements) (sym e) in
        let test : Said → Bool = λ x. ltb o.statement (length statements) && work_kept arrays x o.work && span_kept arrays x.i o.i && span_kept arrays x.j o.j in
        let below : ltb o.statement (length statements) ≡ true = lt-ltb o.statement (length statements) (omega arith) in
        let front = and_from (ltb o.statement (length statements)) (work_kept arrays s o.work) below work in
        let passed : test s ≡ true = and_from _ (span_kept arrays s.j o.j) (and_from _ (span_kept arrays s.i o.i) front i) j in
        subst (λ x. test x ≡ true) its passed

    orders_kept : (m : Mode) → AllByRecursion (λ o. order_kept arrays statements o ≡ true) (orders_by m b k s)
    orders_kept AllAtOnce =
        All-map (λ o. order_kept arrays statements o ≡ true) (task_order b k s) (tasks_of s)
        (All-weaker (λ t. task_kept arrays s t ≡ true) _ (λ t h. order_kept_lem (task_order b k s t) refl h (i_kept t h) (j_kept t h)) (tasks_of s) tasks_kept)
    orders_kept Seq = (order_kept_lem (walk_order b k s) refl refl (plain_kept arrays s.i s.j b s.i) (plain_kept arrays s.i s.j b s.j), tt)

-- of a nest that keeps its ranges
module _ (n : Sheet) (deals : Deals) (kept : nest_kept n.grid n.arrays n.sweeps n.statements ≡ true) where
  -- statement k, which is there
  abbrev Numbered : ℕ → Said → Type 0
  Numbered k s = (k < length n.statements) × (statement_at n.statements k ≡ s) × (statement_kept n.arrays s ≡ true)

  statements_numbered : AllByRecursion (λ ks. Numbered ks.0 ks.1) (numbered 0 n.statements)
  statements_numbered =
      numbered_all Numbered no_statement 0 n.statements
      (λ i l. let e : 0 + i ≡ i = omega arith in (
        omega arith,
        ap (statement_at n.statements) e,
        each_at (statement_kept n.arrays) n.statements (nest_parts n.grid n.arrays n.sweeps n.statements kept).each_statement i no_statement l,
      ))

  board_kept_lem : (p : ℕ) → board_kept n (board_of n deals p) ≡ true
  board_kept_lem p =
      let b = seat n.grid.rows deals p in
      all_each (order_kept n.arrays n.statements) (board_orders b n.statements)
      (all_joined (orders_for b) (λ o. order_kept n.arrays n.statements o ≡ true) (numbered 0 n.statements)
      (All-weaker (λ ks. Numbered ks.0 ks.1) _ (λ ks h. orders_kept n.arrays ks.1 (parts_of n.arrays ks.1 h.2) b n.statements ks.0 h.0 h.1 ks.1.mode) (numbered 0 n.statements) statements_numbered))

  -- every program of the nest
  pub program_kept_lem : program_kept n (map (board_of n deals) (range_with_len 0 (boards_of n.grid))) ≡ true
  program_kept_lem =
      let boards = map (board_of n deals) (range_with_len 0 (boards_of n.grid)) in
      and_from (eqb (length boards) (boards_of n.grid)) (each (board_kept n) boards) (eq-eqb (length boards) (boards_of n.grid) (length-map-range_with_len (board_of n deals) 0 (boards_of n.grid)))
      (all_each (board_kept n) boards (All-map (λ b. board_kept n b ≡ true) (board_of n deals) (range_with_len 0 (boards_of n.grid)) (every board_kept_lem (range_with_len 0 (boards_of n.grid)))))
