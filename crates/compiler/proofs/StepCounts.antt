-- How many steps all boards take together: it does not depend on the deals. Assumes nothing.
use Rattle.std.proofs.Common.{◌≡◌, ℕ, ◌+◌, ◌-◌, ◌*◌, ◌/◌, ◌%◌, ◌<◌, ◌≤◌, Bool, true, false, cond, ◌&&◌, List, [], ◌∷◌, map, length, sum_by, sym, refl, ap, ◌∙◌, ap₂, ⊎_elim, mul_comm, one-mul, mul-one, arith, Option, Some, None}
use native.Mathlib.Nat.{mul-mul-mul_comm}
use Rattle.std.specs.List.{range_with_len, AllByRecursion}
use Rattle.std.proofs.lemmas.List.{get_or_past}
use Rattle.std.proofs.lemmas.List.Sums.{sum_by-cons}
use Rattle.std.proofs.lemmas.Bool.{cond-true, cond-false, cases_lt, cases_Bool, and_cases, and_parts, both_ways}
use Rattle.nest.specs.Terms.{position, Said, Sheet}
use Rattle.nest.specs.declared.terms.Access.{Access}
use Rattle.nest.specs.declared.terms.Array.{Array}
use Rattle.nest.specs.declared.terms.Grid.{Grid}
use Rattle.nest.specs.declared.terms.Mode.{Mode}
use Rattle.nest.specs.declared.terms.Mode.TheVariants.{All as AllTogether, Seq}
use Rattle.nest.specs.declared.terms.Range.{Range}
use Rattle.nest.specs.declared.terms.Subscript.{Subscript}
use Rattle.nest.specs.declared.terms.Variable.TheVariants.{I, J}
use Rattle.owner_map.specs.Meaning.{Deal, Sound, extent, below, sum_over}
use Rattle.owner_map.specs.Deals.{counts_add_up, counts_grow}
use Rattle.dealing.specs.declared.dimension.Dimension.{Dimension}
use Rattle.dealing.specs.declared.dimension.Dimension.TheVariants.{Rows, Columns}
use Rattle.sections.specs.Sections.{Deals, Fits, undealt}
use Rattle.sections.proofs.Sums.{sum_like, sum_plus, sum_scaled, sum_grid}
use Rattle.sequential.proofs.Kept.{Parts}
use Rattle.compiler.specs.declared.order.Task.{Task}
use Rattle.compiler.specs.declared.order.Task.TheVariants.{Ship, Base, Add, Store}
use Rattle.compiler.specs.declared.span.Owning.{Owning}
use Rattle.compiler.specs.Spans.{seat, deal_in, span_of, owning_by, moves_with}
use Rattle.compiler.specs.Orders.{tasks_of, i_owning, j_owning, task_order, walk_order, orders_by, numbered}
use Rattle.compiler.specs.Totals.{boards_of, order_steps, statement_steps, steps_of}
use Rattle.compiler.specs.Laws.{AllSound}
use Rattle.compiler.proofs.SpanValues.{SpanFits, reach_up}
use Rattle.compiler.proofs.TaskSpans.{boards_in, TaskKept, tasks_kept, moves_by, i_fits, j_fits}
use Rattle.compiler.proofs.CellParts.{length_cells}
use Rattle.compiler.proofs.ListSums.{sums_like, sums_alike, sums_scaled, sums_swap, sums_map, sums_below}

-- a span's length has a factor for the board's row in the grid and one for its column. What owns the span lies in one dimension
abbrev same_dimension : Dimension → Dimension → Bool
same_dimension Rows Rows = true
same_dimension Rows Columns = false
same_dimension Columns Rows = false
same_dimension Columns Columns = true

same_dimension_lem : (v w : Dimension) → same_dimension v w ≡ true → w ≡ v
same_dimension_lem Rows Rows e = refl
same_dimension_lem Rows Columns e = cc
same_dimension_lem Columns Rows e = cc
same_dimension_lem Columns Columns e = refl

-- how many of the positions that a loop range reaches board x of a deal owns
abbrev owned_length : Deal → Range → Subscript → ℕ → ℕ
owned_length d r s x = below d x (position s r.high + 1) - below d x (position s r.low)

-- the loop length stands with the rows
abbrev plain_in : Dimension → Range → ℕ
plain_in Rows r = r.high + 1 - r.low
plain_in Columns r = 1

abbrev part_in : Dimension → Deals → Range → Option Owning → ℕ → ℕ
part_in v deals r None x = plain_in v r
part_in v deals r (Some o) x = cond (same_dimension v o.dimension) (owned_length (deal_in v deals o.array) r o.subscript x) 1

span_length_by : (v : Dimension) (q : ℕ) (deals : Deals) (p : ℕ) (r : Range) (t : ℕ) (s : Subscript) → let o : Owning = record { array = t; dimension = v; subscript = s } in
    (span_of (seat q deals p) (Some o) r).end - (span_of (seat q deals p) (Some o) r).first ≡ part_in Rows deals r (Some o) (p % q) * part_in Columns deals r (Some o) (p / q)
span_length_by Rows q deals p r t s = sym (mul-one _)
span_length_by Columns q deals p r t s = sym (one-mul _)

span_length : (q : ℕ) (deals : Deals) (p : ℕ) (r : Range) (k : Option Owning) → (span_of (seat q deals p) k r).end - (span_of (seat q deals p) k r).first ≡ part_in Rows deals r k (p % q) * part_in Columns deals r k (p / q)
span_length q deals p r None = sym (mul-one _)
span_length q deals p r (Some o) = span_length_by o.dimension q deals p r o.array o.subscript

-- whether a span is owned in a dimension; otherwise its factor there is the same for all boards and deals
abbrev uses : Dimension → Option Owning → Bool
uses v None = false
uses v (Some o) = same_dimension v o.dimension

abbrev constant_in : Dimension → Range → Option Owning → ℕ
constant_in v r None = plain_in v r
constant_in v r (Some o) = 1

part_constant : (v : Dimension) (deals : Deals) (r : Range) (k : Option Owning) (x : ℕ) → uses v k ≡ false → part_in v deals r k x ≡ constant_in v r k
part_constant v deals r None x e = refl
part_constant v deals r (Some o) x e = cond-false (same_dimension v o.dimension) (owned_length (deal_in v deals o.array) r o.subscript x) 1 e

-- the positions that a loop range reaches, over all boards of a deal
owned_sum : (d : Deal) (r : Range) (s : Subscript) → Sound d → 1 ≤ position s r.low → position s r.low ≤ position s r.high → position s r.high ≤ extent d
    → sum_over d.boards (owned_length d r s) ≡ position s r.high + 1 - position s r.low
owned_sum d r s sound low up high =
    let a : ℕ = position s r.low in
    let z : ℕ = position s r.high + 1 in
    let plus = sum_plus (owned_length d r s) (λ x. below d x a) d.boards in
    let like = sum_like (λ x. owned_length d r s x + below d x a) (λ x. below d x z) d.boards (λ x h. omega (arith, counts_grow d x a z (omega arith))) in
    omega (arith, plus, like, counts_add_up d sound a (omega arith), counts_add_up d sound z (omega arith))

-- no two spans of a task are owned in one dimension
abbrev pub Apart : Option Owning → Option Owning → Type 0
Apart k l = (v : Dimension) → (uses v k && uses v l) ≡ false

ship_apart_by : (a : Access) (x y z w : Bool) → (x && z) ≡ false → (y && w) ≡ false → Apart (cond x (Some (owning_by Rows a)) (cond y (Some (owning_by Columns a)) None)) (cond z (Some (owning_by Rows a)) (cond w (Some (owning_by Columns a)) None))
ship_apart_by a true y true w p q v = absurd (both_ways true p refl)
ship_apart_by a true y false true p q Rows = refl
ship_apart_by a true y false true p q Columns = refl
ship_apart_by a true y false false p q Rows = refl
ship_apart_by a true y false false p q Columns = refl
ship_apart_by a false true true w p q Rows = refl
ship_apart_by a false true true w p q Columns = refl
ship_apart_by a false true false true p q v = absurd (both_ways true q refl)
ship_apart_by a false true false false p q Rows = refl
ship_apart_by a false true false false p q Columns = refl
ship_apart_by a false false z w p q v = refl

-- a subscript moves with one variable at most
one_variable : (s : Subscript) → (moves_with I s && moves_with J s) ≡ false
one_variable s = ⊎_elim (λ e. absurd (both e)) (λ e. e) (cases_Bool (moves_with I s && moves_with J s))
  where
    both : (moves_with I s && moves_with J s) ≡ true → ⊥
    both e =
        let p = and_parts (moves_with I s) (moves_with J s) e in
        let i = (moves_by I s p.0).0 in
        let j = (moves_by J s p.1).0 in
        let z : ◌≡◌ {A = ℕ} 0 1 = cc in
        omega arith

target_apart : (a : Access) → Apart (Some (owning_by Rows a)) (Some (owning_by Columns a))
target_apart a Rows = refl
target_apart a Columns = refl

pub spans_apart : (s : Said) (t : Task) → Apart (i_owning s t) (j_owning s t)
spans_apart s (Ship r) =
    ship_apart_by r.source (moves_with I r.source.row) (moves_with I r.source.column) (moves_with J r.source.row) (moves_with J r.source.column) (one_variable r.source.row) (one_variable r.source.column)
spans_apart s Base = target_apart s.put
spans_apart s (Add r) = target_apart s.put
spans_apart s Store = target_apart s.put

-- a sum of products with a constant
constant_factor : (f g : ℕ → ℕ) (c n : ℕ) → ((x : ℕ) → g x ≡ c) → sum_over n (λ x. f x * g x) ≡ sum_over n f * c
constant_factor f g c n same = sum_like (λ x. f x * g x) (λ x. f x * c) n (λ x h. ap (λ m. f x * m) (same x)) ∙ sum_scaled f c n

-- the sum of a span's factors over the boards of a dimension
abbrev part_total : Dimension → Grid → Range → Option Owning → ℕ
part_total v g r None = sum_over (boards_in v g) (λ _. plain_in v r)
part_total v g r (Some o) = cond (same_dimension v o.dimension) (position o.subscript r.high + 1 - position o.subscript r.low) (sum_over (boards_in v g) (λ _. 1))

-- the sum of the products of two spans' factors, not both owned there
abbrev pair_total : Dimension → Grid → Range → Option Owning → Range → Option Owning → ℕ
pair_total v g r k r' l = cond (uses v k) (part_total v g r k * constant_in v r' l) (part_total v g r' l * constant_in v r k)

-- the steps of all boards for a task, for a statement, for all sweeps
abbrev pub task_total : Grid → Said → Task → ℕ
task_total g s t = pair_total Rows g s.i (i_owning s t) s.j (j_owning s t) * pair_total Columns g s.i (i_owning s t) s.j (j_owning s t)

abbrev walk_total : Grid → Said → ℕ
walk_total g s = sum_by (λ p. (s.i.high + 1 - s.i.low) * (s.j.high + 1 - s.j.low) * length (tasks_of s)) (range_with_len 0 (boards_of g))

abbrev total_by : Mode → Grid → Said → ℕ
total_by AllTogether g s = sum_by (task_total g s) (tasks_of s)
total_by Seq g s = walk_total g s

abbrev pub statement_total : Grid → ℕ × Said → ℕ
statement_total g ks = total_by ks.1.mode g ks.1

abbrev pub steps_total : Sheet → ℕ
steps_total n = n.sweeps * sum_by (statement_total n.grid) (numbered 0 n.statements)

-- what holds of each of a list holds of each with its number
numbered_all : {X : Type 0} (P : X → Type 0) (k : ℕ) (xs : List X) → AllByRecursion P xs → AllByRecursion (λ kx. P kx.1) (numbered k xs)
numbered_all P k [] a = tt
numbered_all P k (x ∷ xs) a = (a.0, numbered_all P (k + 1) xs a.1)

all_like : {X : Type 0} (P Q : X → Type 0) (xs : List X) → ((x : X) → P x → Q x) → AllByRecursion P xs → AllByRecursion Q xs
all_like P Q [] f a = tt
all_like P Q (x ∷ xs) f a = (f x a.0, all_like P Q xs f a.1)

module _ (g : Grid) (arrays : List Array) (deals : Deals) (fit : Fits g arrays deals) (sound : AllSound deals) where
  -- a span that reaches positions is owned in an array that is there
  array_there : (v : Dimension) (t n : ℕ) → 1 ≤ n → n ≤ extent (deal_in v deals t) → t < length arrays
  array_there Rows t n low high =
      ⊎_elim (λ l. l) (λ past. absurd (let e = ap extent (get_or_past deals.rows t undealt (omega (arith, fit.0))) in omega arith)) (cases_lt t (length arrays))
  array_there Columns t n low high =
      ⊎_elim (λ l. l) (λ past. absurd (let e = ap extent (get_or_past deals.columns t undealt (omega (arith, fit.1))) in omega arith)) (cases_lt t (length arrays))

  deal_sound : (v : Dimension) (t : ℕ) → t < length arrays → Sound (deal_in v deals t) × ((deal_in v deals t).boards ≡ boards_in v g)
  deal_sound Rows t h = ((sound t (omega (arith, fit.0)) (omega (arith, fit.1))).0, (fit.2 t h).0.0)
  deal_sound Columns t h = ((sound t (omega (arith, fit.0)) (omega (arith, fit.1))).1, (fit.2 t h).1.0)

  part_sum : (v : Dimension) (p : ℕ) (r : Range) (k : Option Owning) → SpanFits (seat g.rows deals p) r k → sum_over (boards_in v g) (part_in v deals r k) ≡ part_total v g r k
  part_sum v p r None fits = refl
  part_sum v p r (Some o) fits = ⊎_elim owned other (cases_Bool (same_dimension v o.dimension))
    where
      owned : same_dimension v o.dimension ≡ true → sum_over (boards_in v g) (part_in v deals r (Some o)) ≡ part_total v g r (Some o)
      owned e =
          let d : Deal = deal_in v deals o.array in
          let high : position o.subscript r.high ≤ extent d = rw (← same_dimension_lem v o.dimension e) fits.high in
          let up = reach_up (seat g.rows deals p) r o fits in
          let there = array_there v o.array (position o.subscript r.high) (omega (arith, fits.low)) high in
          let s = deal_sound v o.array there in
          sum_like (part_in v deals r (Some o)) (owned_length d r o.subscript) (boards_in v g) (λ x h. cond-true (same_dimension v o.dimension) (owned_length d r o.subscript x) 1 e)
          ∙ ap (λ n. sum_over n (owned_length d r o.subscript)) (sym s.1)
          ∙ owned_sum d r o.subscript s.0 fits.low up high
          ∙ sym (cond-true (same_dimension v o.dimension) (position o.subscript r.high + 1 - position o.subscript r.low) (sum_over (boards_in v g) (λ _. 1)) e)

      other : same_dimension v o.dimension ≡ false → sum_over (boards_in v g) (part_in v deals r (Some o)) ≡ part_total v g r (Some o)
      other e =
          sum_like (part_in v deals r (Some o)) (λ _. 1) (boards_in v g) (λ x h. part_constant v deals r (Some o) x e)
          ∙ sym (cond-false (same_dimension v o.dimension) (position o.subscript r.high + 1 - position o.subscript r.low) (sum_over (boards_in v g) (λ _. 1)) e)

  -- of two spans that are not owned in one dimension
  module _ (p : ℕ) (r : Range) (k : Option Owning) (r' : Range) (l : Option Owning) (fits : SpanFits (seat g.rows deals p) r k) (fits' : SpanFits (seat g.rows deals p) r' l) (apart : Apart k l) where
    pair_sum : (v : Dimension) → sum_over (boards_in v g) (λ x. part_in v deals r k x * part_in v deals r' l x) ≡ pair_total v g r k r' l
    pair_sum v = ⊎_elim first second (cases_Bool (uses v k))
      where
        first : uses v k ≡ true → sum_over (boards_in v g) (λ x. part_in v deals r k x * part_in v deals r' l x) ≡ pair_total v g r k r' l
        first e =
            let other : uses v l ≡ false = ⊎_elim (λ f. absurd (both_ways (uses v k) f e)) (λ f. f) (and_cases (uses v k) (uses v l) (apart v)) in
            constant_factor (part_in v deals r k) (part_in v deals r' l) (constant_in v r' l) (boards_in v g) (λ x. part_constant v deals r' l x other)
            ∙ ap (λ n. n * constant_in v r' l) (part_sum v p r k fits)
            ∙ sym (cond-true (uses v k) (part_total v g r k * constant_in v r' l) (part_total v g r' l * constant_in v r k) e)

        second : uses v k ≡ false → sum_over (boards_in v g) (λ x. part_in v deals r k x * part_in v deals r' l x) ≡ pair_total v g r k r' l
        second e =
            sum_like (λ x. part_in v deals r k x * part_in v deals r' l x) (λ x. part_in v deals r' l x * part_in v deals r k x) (boards_in v g) (λ x h. mul_comm (part_in v deals r k x) (part_in v deals r' l x))
            ∙ constant_factor (part_in v deals r' l) (part_in v deals r k) (constant_in v r k) (boards_in v g) (λ x. part_constant v deals r k x e)
            ∙ ap (λ n. n * constant_in v r k) (part_sum v p r' l fits')
            ∙ sym (cond-false (uses v k) (part_total v g r k * constant_in v r' l) (part_total v g r' l * constant_in v r k) e)

    pair_total_lem : sum_over (g.rows * g.columns) (λ b. ((span_of (seat g.rows deals b) k r).end - (span_of (seat g.rows deals b) k r).first) * ((span_of (seat g.rows deals b) l r').end - (span_of (seat g.rows deals b) l r').first))
        ≡ pair_total Rows g r k r' l * pair_total Columns g r k r' l
    pair_total_lem =
        let row : ℕ → ℕ = λ x. part_in Rows deals r k x * part_in Rows deals r' l x in
        let column : ℕ → ℕ = λ y. part_in Columns deals r k y * part_in Columns deals r' l y in
        sum_like (λ b. ((span_of (seat g.rows deals b) k r).end - (span_of (seat g.rows deals b) k r).first) * ((span_of (seat g.rows deals b) l r').end - (span_of (seat g.rows deals b) l r').first)) (λ b. row (b % g.rows) * column (b / g.rows)) (g.rows * g.columns)
        (λ b h. ap₂ (λ m n. m * n) (span_length g.rows deals b r k) (span_length g.rows deals b r' l) ∙ mul-mul-mul_comm (part_in Rows deals r k (b % g.rows)) (part_in Columns deals r k (b / g.rows)) (part_in Rows deals r' l (b % g.rows)) (part_in Columns deals r' l (b / g.rows)))
        ∙ sum_grid row column g.rows g.columns
        ∙ ap₂ (λ m n. m * n) (pair_sum Rows) (pair_sum Columns)

  -- of a statement that keeps its ranges
  module _ (n : ℕ) (s : Said) (kept : Parts arrays s) where
    task_total_lem : (t : Task) → TaskKept arrays s t → sum_by (λ p. order_steps (seat g.rows deals p) s (task_order (seat g.rows deals p) n s t)) (range_with_len 0 (boards_of g)) ≡ task_total g s t
    task_total_lem t task =
        let cells : ℕ → ℕ = λ p. ((span_of (seat g.rows deals p) (i_owning s t) s.i).end - (span_of (seat g.rows deals p) (i_owning s t) s.i).first) * ((span_of (seat g.rows deals p) (j_owning s t) s.j).end - (span_of (seat g.rows deals p) (j_owning s t) s.j).first) in
        sums_alike (λ p. order_steps (seat g.rows deals p) s (task_order (seat g.rows deals p) n s t)) cells (range_with_len 0 (boards_of g)) (λ p. mul-one _ ∙ length_cells (seat g.rows deals p) s (task_order (seat g.rows deals p) n s t))
        ∙ sums_below cells (boards_of g)
        ∙ pair_total_lem 0 s.i (i_owning s t) s.j (j_owning s t) (i_fits g arrays deals fit sound s kept 0 t task) (j_fits g arrays deals fit sound s kept 0 t task) (spans_apart s t)

    mode_total : (m : Mode) → sum_by (λ p. sum_by (order_steps (seat g.rows deals p) s) (orders_by m (seat g.rows deals p) n s)) (range_with_len 0 (boards_of g)) ≡ total_by m g s
    mode_total AllTogether =
        let steps : ℕ → Task → ℕ = λ p t. order_steps (seat g.rows deals p) s (task_order (seat g.rows deals p) n s t) in
        sums_alike (λ p. sum_by (order_steps (seat g.rows deals p) s) (map (task_order (seat g.rows deals p) n s) (tasks_of s))) (λ p. sum_by (steps p) (tasks_of s)) (range_with_len 0 (boards_of g)) (λ p. sums_map (order_steps (seat g.rows deals p) s) (task_order (seat g.rows deals p) n s) (tasks_of s))
        ∙ sums_swap steps (range_with_len 0 (boards_of g)) (tasks_of s)
        ∙ sums_like (λ t. sum_by (λ p. steps p t) (range_with_len 0 (boards_of g))) (task_total g s) (tasks_of s) (all_like (TaskKept arrays s) (λ t. sum_by (λ p. steps p t) (range_with_len 0 (boards_of g)) ≡ task_total g s t) (tasks_of s) task_total_lem (tasks_kept arrays s kept))
    mode_total Seq =
        sums_alike (λ p. sum_by (order_steps (seat g.rows deals p) s) (walk_order (seat g.rows deals p) n s ∷ [])) (λ p. (s.i.high + 1 - s.i.low) * (s.j.high + 1 - s.j.low) * length (tasks_of s)) (range_with_len 0 (boards_of g))
        (λ p. omega (arith, sum_by-cons (order_steps (seat g.rows deals p) s) (walk_order (seat g.rows deals p) n s) [], ap (λ m. m * length (tasks_of s)) (length_cells (seat g.rows deals p) s (walk_order (seat g.rows deals p) n s))))

-- the steps of all boards are what the nest alone says
pub steps_total_lem : (n : Sheet) (deals : Deals) → Fits n.grid n.arrays deals → AllSound deals → AllByRecursion (Parts n.arrays) n.statements → steps_of n deals ≡ steps_total n
steps_total_lem n deals fit sound kept =
    let g : Grid = n.grid in
    let all : List (ℕ × Said) = numbered 0 n.statements in
    let steps : ℕ → ℕ × Said → ℕ = λ p ks. statement_steps (seat g.rows deals p) ks in
    sums_scaled n.sweeps (λ p. sum_by (steps p) all) (range_with_len 0 (boards_of g))
    ∙ ap (λ m. n.sweeps * m)
    (sums_swap steps (range_with_len 0 (boards_of g)) all
    ∙ sums_like (λ ks. sum_by (λ p. steps p ks) (range_with_len 0 (boards_of g))) (statement_total g) all
    (all_like (λ ks. Parts n.arrays ks.1) (λ ks. sum_by (λ p. steps p ks) (range_with_len 0 (boards_of g)) ≡ statement_total g ks) all (λ ks parts. mode_total g n.arrays deals fit sound ks.0 ks.1 parts ks.1.mode) (numbered_all (Parts n.arrays) 0 n.statements kept)))
