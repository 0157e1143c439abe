-- The spans of a task: what owns them reaches only positions that are there, and a board that has a part in a task owns
-- both loop values. Assumes nothing.
use Rattle.std.proofs.Common.{◌≡◌, ℕ, ◌+◌, ◌-◌, ◌*◌, ◌/◌, ◌%◌, ◌<◌, ◌≤◌, true, cond, not, ◌&&◌, leb, List, [], ◌∷◌, ◌++◌, map, length, get_or, sym, refl, ap, ◌∙◌, ⊎_elim, mul_comm, arith, Some, None}
use Rattle.std.specs.List.{AllByRecursion}
use Rattle.std.proofs.lemmas.Nat.{div-mul-add, mod-mul-add, mul-add-lt}
use Rattle.std.proofs.ByRecursion.{All-append, All-map}
use Rattle.std.proofs.lemmas.List.{get_or_past}
use Rattle.std.proofs.lemmas.Bool.{and_parts, leb-true, eqb-true, eq-eqb, cond_both, cases_lt}
use Rattle.nest.specs.Terms.{position, range_of, inside, nowhere, Said}
use Rattle.nest.specs.Sound.{each, access_kept, is_i, read_kept}
use Rattle.nest.specs.declared.terms.Access.{Access}
use Rattle.nest.specs.declared.terms.Array.{Array}
use Rattle.nest.specs.declared.terms.Grid.{Grid}
use Rattle.nest.specs.declared.terms.Range.{Range}
use Rattle.nest.specs.declared.terms.ReadTerm.{ReadTerm}
use Rattle.nest.specs.declared.terms.Subscript.{Subscript}
use Rattle.nest.specs.declared.terms.Variable.{Variable}
use Rattle.nest.specs.declared.terms.Variable.TheVariants.{I, J}
use Rattle.owner_map.specs.Meaning.{Deal, Sound, extent, owner}
use Rattle.sections.specs.Sections.{Deals, Fits, rows_of, columns_of}
use Rattle.sequential.specs.Iterations.{variable_in, position_in}
use Rattle.sequential.specs.declared.iteration.Iteration.{Iteration}
use Rattle.sequential.proofs.Kept.{Parts, access_parts, factor_of, range_of_lem}
use Rattle.dealing.specs.declared.dimension.Dimension.{Dimension}
use Rattle.dealing.specs.declared.dimension.Dimension.TheVariants.{Rows, Columns}
use Rattle.compiler.specs.declared.order.Task.{Task}
use Rattle.compiler.specs.declared.order.Task.TheVariants.{Ship, Base, Add, Store}
use Rattle.compiler.specs.Spans.{seat, deal_in, coordinate, owns_value, subscript_in, owning_by, same_variable, moves_with, ship_owning}
use Rattle.compiler.specs.Orders.{tasks_of, i_owning, j_owning}
use Rattle.compiler.specs.Cells.{board_at, owns_at, takes_part}
use Rattle.compiler.specs.Laws.{AllSound}
use Rattle.compiler.proofs.SpanValues.{SpanFits, factor_rises}

-- a subscript that moves with a variable uses it, with a factor from 1
same_variable_lem : (v w : Variable) → same_variable v w ≡ true → w ≡ v
same_variable_lem I I e = refl
same_variable_lem I J e = cc
same_variable_lem J I e = cc
same_variable_lem J J e = refl

pub moves_by : (v : Variable) (s : Subscript) → moves_with v s ≡ true → (s.variable ≡ v) × (1 ≤ s.factor)
moves_by v s e =
    let p = and_parts (same_variable v s.variable) (leb 1 s.factor) e in
    (same_variable_lem v s.variable p.0, leb-true 1 s.factor p.1)

pub is_i_lem : (v : Variable) → is_i v ≡ true → v ≡ I
is_i_lem I e = refl
is_i_lem J e = cc

pub is_j : (v : Variable) → not (is_i v) ≡ true → v ≡ J
is_j I e = cc
is_j J e = refl

-- every number has an owner among the boards of a sound deal
pub owner_below : (d : Deal) (x : ℕ) → Sound d → owner d x < d.boards
owner_below d x sound = ⊎_elim within past (cases_lt (x - 1) (extent d))
  where
    within : x - 1 < extent d → owner d x < d.boards
    within h =
        let e : x - 1 + 1 - 1 ≡ x - 1 = omega arith in
        let o : get_or d.owners (x - 1 + 1 - 1) 0 < d.boards = sound.4 (x - 1 + 1) (omega arith) in
        rw e at o

    past : extent d ≤ x - 1 → owner d x < d.boards
    past h = let e = get_or_past d.owners (x - 1) 0 h in omega (arith, sound.0)

-- of a task: the element that it ships is there
abbrev pub TaskKept : List Array → Said → Task → Type 0
TaskKept arrays s (Ship r) = access_kept 0 arrays s.i s.j r.source ≡ true
TaskKept arrays s Base = Unit {0}
TaskKept arrays s (Add r) = Unit {0}
TaskKept arrays s Store = Unit {0}

-- the reads of a statement that keeps its ranges
pub reads_kept : (arrays : List Array) (i j : Range) (reads : List ReadTerm) → each (read_kept arrays i j) reads ≡ true → AllByRecursion (λ r. access_kept 0 arrays i j r.source ≡ true) reads
reads_kept arrays i j [] k = tt
reads_kept arrays i j (r ∷ reads) k =
    let p = and_parts (read_kept arrays i j r) (each (read_kept arrays i j) reads) k in
    ((and_parts (leb r.coefficient 7) (access_kept 0 arrays i j r.source) p.0).1, reads_kept arrays i j reads p.1)

all_true : {X : Type 0} (P : X → Type 0) (xs : List X) → ((x : X) → P x) → AllByRecursion P xs
all_true P [] f = tt
all_true P (x ∷ xs) f = (f x, all_true P xs f)

-- all its tasks are kept
pub tasks_kept : (arrays : List Array) (s : Said) → Parts arrays s → AllByRecursion (TaskKept arrays s) (tasks_of s)
tasks_kept arrays s kept =
    let adds : AllByRecursion (TaskKept arrays s) (map Add s.reads) = All-map (TaskKept arrays s) Add s.reads (all_true (λ r. TaskKept arrays s (Add r)) s.reads (λ _. tt)) in
    let ships : AllByRecursion (TaskKept arrays s) (map Ship s.reads) = All-map (TaskKept arrays s) Ship s.reads (reads_kept arrays s.i s.j s.reads kept.reads) in
    All-append (TaskKept arrays s) (map Ship s.reads) (Base ∷ (map Add s.reads ++ (Store ∷ []))) ships
    (tt, All-append (TaskKept arrays s) (map Add s.reads) (Store ∷ []) adds (tt, tt))

-- how long a dimension of an array is
abbrev pub size_in : Dimension → Array → ℕ
size_in Rows a = a.rows
size_in Columns a = a.columns

-- over how many boards of the grid it is dealt
abbrev pub boards_in : Dimension → Grid → ℕ
boards_in Rows g = g.rows
boards_in Columns g = g.columns

-- deals of maps that fit a nest
module _ (g : Grid) (arrays : List Array) (deals : Deals) (fit : Fits g arrays deals) (sound : AllSound deals) where
  pub sound_at : (t : ℕ) → t < length arrays → Sound (rows_of deals t) × Sound (columns_of deals t)
  sound_at t h = sound t (omega (arith, fit.0)) (omega (arith, fit.1))

  pub owners_below : (t x y : ℕ) → t < length arrays → (owner (rows_of deals t) x < g.rows) × (owner (columns_of deals t) y < g.columns)
  owners_below t x y h =
      let s = sound_at t h in
      (omega (arith, owner_below (rows_of deals t) x s.0, (fit.2 t h).0.0), omega (arith, owner_below (columns_of deals t) y s.1, (fit.2 t h).1.0))

  -- the board that owns an element is one of the grid; its row and its column in the grid are the owners
  pub board_there : (a : Access) (e : Iteration) → a.array < length arrays → board_at (seat g.rows deals 0) a e < g.rows * g.columns
  board_there a e h =
      let o = owners_below a.array (position_in a.row e) (position_in a.column e) h in
      omega (arith, mul-add-lt (owner (columns_of deals a.array) (position_in a.column e)) g.rows (owner (rows_of deals a.array) (position_in a.row e)) g.columns o.1 o.0, mul_comm g.rows (owner (columns_of deals a.array) (position_in a.column e)))

  pub owners_split : (p : ℕ) (a : Access) (e : Iteration) → a.array < length arrays → owns_at (seat g.rows deals p) a e ≡ true
      → (owner (rows_of deals a.array) (position_in a.row e) ≡ p % g.rows) × (owner (columns_of deals a.array) (position_in a.column e) ≡ p / g.rows)
  owners_split p a e h own =
      let x : ℕ = owner (rows_of deals a.array) (position_in a.row e) in
      let y : ℕ = owner (columns_of deals a.array) (position_in a.column e) in
      let o = owners_below a.array (position_in a.row e) (position_in a.column e) h in
      let same : x + g.rows * y ≡ p = eqb-true _ p own in
      let turned : y * g.rows + x ≡ p = omega (arith, mul_comm g.rows y) in
      (sym (mod-mul-add y g.rows x o.0) ∙ ap (λ n. n % g.rows) turned, sym (div-mul-add y g.rows x o.0) ∙ ap (λ n. n / g.rows) turned)

  -- a dimension of an array is as long as its deal, and an access that is kept stays inside it
  extent_in : (d : Dimension) (t : ℕ) → t < length arrays → extent (deal_in d deals t) ≡ size_in d (get_or arrays t nowhere)
  extent_in Rows t h = (fit.2 t h).0.1
  extent_in Columns t h = (fit.2 t h).1.1

  kept_in : (d : Dimension) (least : ℕ) (i j : Range) (a : Access) → access_kept least arrays i j a ≡ true → inside i j (size_in d (get_or arrays a.array nowhere)) (subscript_in d a) ≡ true
  kept_in Rows least i j a k = (access_parts least arrays i j a k).rows
  kept_in Columns least i j a k = (access_parts least arrays i j a k).columns

  -- a span by a dimension of an access that is kept
  pub dimension_fits : (d : Dimension) (p least : ℕ) (i j : Range) (a : Access) (v : Variable) → access_kept least arrays i j a ≡ true → (subscript_in d a).variable ≡ v → 1 ≤ (subscript_in d a).factor
      → (range_of v i j).low ≤ (range_of v i j).high → SpanFits (seat g.rows deals p) (range_of v i j) (Some (owning_by d a))
  dimension_fits d p least i j a v k by factor some =
      let s : Subscript = subscript_in d a in
      let low = position s (range_of v i j).low in
      let high = position s (range_of v i j).high in
      let size = size_in d (get_or arrays a.array nowhere) in
      let in-at : (leb 1 low && leb high size) ≡ true = ap (λ w. leb 1 (position s (range_of w i j).low) && leb (position s (range_of w i j).high) size) (sym by) ∙ kept_in d least i j a k in
      let ends = and_parts (leb 1 low) (leb high size) in-at in
      let first = leb-true 1 low ends.0 in
      record { some = some; rises = factor_rises s (range_of v i j).low factor first; low = first; high = omega (arith, leb-true high size ends.1, extent_in d a.array (access_parts least arrays i j a k).there) }

  -- the ship span of a variable
  pub ship_fits : (p least : ℕ) (i j : Range) (a : Access) (v : Variable) → access_kept least arrays i j a ≡ true → (range_of v i j).low ≤ (range_of v i j).high
      → SpanFits (seat g.rows deals p) (range_of v i j) (ship_owning v a)
  ship_fits p least i j a v k some =
      cond_both (moves_with v a.row) (Some (owning_by Rows a)) (cond (moves_with v a.column) (Some (owning_by Columns a)) None) (SpanFits (seat g.rows deals p) (range_of v i j))
      (λ m. let by = moves_by v a.row m in dimension_fits Rows p least i j a v k by.0 by.1 some)
      (λ _. cond_both (moves_with v a.column) (Some (owning_by Columns a)) None (SpanFits (seat g.rows deals p) (range_of v i j)) (λ m. let by = moves_by v a.column m in dimension_fits Columns p least i j a v k by.0 by.1 some) (λ _. tt))

  -- the board owns the loop values of an iteration whose element it owns
  owner_is : (d : Dimension) (p : ℕ) (a : Access) (e : Iteration) → a.array < length arrays → owns_at (seat g.rows deals p) a e ≡ true → owner (deal_in d deals a.array) (position_in (subscript_in d a) e) ≡ coordinate d g.rows p
  owner_is Rows p a e h own = (owners_split p a e h own).0
  owner_is Columns p a e h own = (owners_split p a e h own).1

  pub dimension_owned : (d : Dimension) (p : ℕ) (a : Access) (e : Iteration) (v : Variable) → a.array < length arrays → (subscript_in d a).variable ≡ v → owns_at (seat g.rows deals p) a e ≡ true
      → owns_value (seat g.rows deals p) (Some (owning_by d a)) (variable_in v e) ≡ true
  dimension_owned d p a e v h by own =
      eq-eqb (owner (deal_in d deals a.array) (position (subscript_in d a) (variable_in v e))) (coordinate d g.rows p)
      (ap (λ w. owner (deal_in d deals a.array) (position (subscript_in d a) (variable_in w e))) (sym by) ∙ owner_is d p a e h own)

  pub ship_owned : (p : ℕ) (a : Access) (e : Iteration) (v : Variable) → a.array < length arrays → owns_at (seat g.rows deals p) a e ≡ true → owns_value (seat g.rows deals p) (ship_owning v a) (variable_in v e) ≡ true
  ship_owned p a e v h own =
      cond_both (moves_with v a.row) (Some (owning_by Rows a)) (cond (moves_with v a.column) (Some (owning_by Columns a)) None) (λ k. owns_value (seat g.rows deals p) k (variable_in v e) ≡ true)
      (λ m. dimension_owned Rows p a e v h (moves_by v a.row m).0 own)
      (λ _. cond_both (moves_with v a.column) (Some (owning_by Columns a)) None (λ k. owns_value (seat g.rows deals p) k (variable_in v e) ≡ true) (λ m. dimension_owned Columns p a e v h (moves_by v a.column m).0 own) (λ _. refl))

  -- of a statement that keeps its ranges
  module _ (s : Said) (kept : Parts arrays s) where
    put_there : s.put.array < length arrays
    put_there = (access_parts 1 arrays s.i s.j s.put kept.put).there

    -- its spans by the target
    by_put_rows : (p : ℕ) → SpanFits (seat g.rows deals p) s.i (Some (owning_by Rows s.put))
    by_put_rows p =
        dimension_fits Rows p 1 s.i s.j s.put I kept.put (is_i_lem s.put.row.variable kept.by_i) (factor_of 1 s.put.row (access_parts 1 arrays s.i s.j s.put kept.put).row).0 (range_of_lem s.i kept.i).0

    by_put_columns : (p : ℕ) → SpanFits (seat g.rows deals p) s.j (Some (owning_by Columns s.put))
    by_put_columns p =
        dimension_fits Columns p 1 s.i s.j s.put J kept.put (is_j s.put.column.variable kept.by_j) (factor_of 1 s.put.column (access_parts 1 arrays s.i s.j s.put kept.put).column).0 (range_of_lem s.j kept.j).0

    -- the spans of every task fit
    pub i_fits : (p : ℕ) (t : Task) → TaskKept arrays s t → SpanFits (seat g.rows deals p) s.i (i_owning s t)
    i_fits p (Ship r) k = ship_fits p 0 s.i s.j r.source I k (range_of_lem s.i kept.i).0
    i_fits p Base k = by_put_rows p
    i_fits p (Add r) k = by_put_rows p
    i_fits p Store k = by_put_rows p

    pub j_fits : (p : ℕ) (t : Task) → TaskKept arrays s t → SpanFits (seat g.rows deals p) s.j (j_owning s t)
    j_fits p (Ship r) k = ship_fits p 0 s.i s.j r.source J k (range_of_lem s.j kept.j).0
    j_fits p Base k = by_put_columns p
    j_fits p (Add r) k = by_put_columns p
    j_fits p Store k = by_put_columns p

    put_i : (p : ℕ) (e : Iteration) → owns_at (seat g.rows deals p) s.put e ≡ true → owns_value (seat g.rows deals p) (Some (owning_by Rows s.put)) e.i ≡ true
    put_i p e own = dimension_owned Rows p s.put e I put_there (is_i_lem s.put.row.variable kept.by_i) own

    put_j : (p : ℕ) (e : Iteration) → owns_at (seat g.rows deals p) s.put e ≡ true → owns_value (seat g.rows deals p) (Some (owning_by Columns s.put)) e.j ≡ true
    put_j p e own = dimension_owned Columns p s.put e J put_there (is_j s.put.column.variable kept.by_j) own

    source_there : (r : ReadTerm) → TaskKept arrays s (Ship r) → r.source.array < length arrays
    source_there r k = (access_parts 0 arrays s.i s.j r.source k).there

    shipping : (p : ℕ) (r : ReadTerm) (e : Iteration) → takes_part (seat g.rows deals p) s (Ship r) e ≡ true → owns_at (seat g.rows deals p) r.source e ≡ true
    shipping p r e part = (and_parts (owns_at (seat g.rows deals p) r.source e) (not (owns_at (seat g.rows deals p) s.put e)) part).0

    -- a board that has a part in an iteration owns both its loop values
    pub part_owns_i : (p : ℕ) (t : Task) (e : Iteration) → TaskKept arrays s t → takes_part (seat g.rows deals p) s t e ≡ true → owns_value (seat g.rows deals p) (i_owning s t) e.i ≡ true
    part_owns_i p (Ship r) e k part = ship_owned p r.source e I (source_there r k) (shipping p r e part)
    part_owns_i p Base e k part = put_i p e part
    part_owns_i p (Add r) e k part = put_i p e part
    part_owns_i p Store e k part = put_i p e part

    pub part_owns_j : (p : ℕ) (t : Task) (e : Iteration) → TaskKept arrays s t → takes_part (seat g.rows deals p) s t e ≡ true → owns_value (seat g.rows deals p) (j_owning s t) e.j ≡ true
    part_owns_j p (Ship r) e k part = ship_owned p r.source e J (source_there r k) (shipping p r e part)
    part_owns_j p Base e k part = put_j p e part
    part_owns_j p (Add r) e k part = put_j p e part
    part_owns_j p Store e k part = put_j p e part
