-- The orders of a nest cover it: the laws of the compiler's orders. Assumes nothing.
use Rattle.std.proofs.Common.{◌≡◌, ℕ, Bool, true, false, not, ◌&&◌, eqb, List, [], ◌∷◌, ◌++◌, map, filter, sym, refl, ap, ◌∙◌, inl, inr}
use Rattle.std.specs.List.{flat_map, AllByRecursion}
use Rattle.std.proofs.lemmas.Bool.{and_parts, eqb-true, ne_eqb}
use Rattle.nest.specs.Terms.{Said, Sheet}
use Rattle.nest.specs.Sound.{each, access_kept, statement_kept, nest_kept}
use Rattle.nest.specs.declared.terms.Array.{Array}
use Rattle.nest.specs.declared.terms.ReadTerm.{ReadTerm}
use Rattle.nest.proofs.Keeps.{nest_parts}
use Rattle.sections.specs.Sections.{Deals, Fits}
use Rattle.sequential.specs.Iterations.{iterations}
use Rattle.sequential.specs.Laws.{In}
use Rattle.sequential.specs.declared.iteration.Iteration.{Iteration}
use Rattle.sequential.proofs.Kept.{Parts, parts_of, access_parts}
use Rattle.compiler.specs.declared.order.Task.{Task}
use Rattle.compiler.specs.declared.order.Task.TheVariants.{Ship, Base, Add, Store}
use Rattle.compiler.specs.Spans.{seat}
use Rattle.compiler.specs.Orders.{tasks_of, i_owning, j_owning, task_order}
use Rattle.compiler.specs.Cells.{cells_of, board_at, takes_part}
use Rattle.compiler.specs.Deeds.{working, deed_of, deed_in}
use Rattle.compiler.specs.Laws.{AllSound, SpansAreOwnedValues, PartsAreIterations, OwnersAreBoards, ShippedIsTaken, StepsWhateverTheMaps, OrdersCoverTheNest}
use Rattle.compiler.proofs.FilteredLists.{all_in, kept_by_like, kept_by_twice}
use Rattle.compiler.proofs.SpanValues.{span_values_lem}
use Rattle.compiler.proofs.TaskSpans.{TaskKept, reads_kept, tasks_kept, i_fits, j_fits, board_there}
use Rattle.compiler.proofs.CellParts.{parts_are_iterations, work_is_iterations}
use Rattle.compiler.proofs.StepCounts.{steps_total_lem}

in_append_left : {X : Type 0} (x : X) (xs ys : List X) → In x xs → In x (xs ++ ys)
in_append_left x [] ys m = absurd m
in_append_left x (y ∷ xs) ys (inl e) = inl e
in_append_left x (y ∷ xs) ys (inr m) = inr (in_append_left x xs ys m)

in_append_right : {X : Type 0} (x : X) (xs ys : List X) → In x ys → In x (xs ++ ys)
in_append_right x [] ys m = m
in_append_right x (y ∷ xs) ys m = inr (in_append_right x xs ys m)

in_mapped : {X Y : Type 0} (f : X → Y) (x : X) (xs : List X) → In x xs → In (f x) (map f xs)
in_mapped f x [] m = absurd m
in_mapped f x (y ∷ xs) (inl e) = inl (ap f e)
in_mapped f x (y ∷ xs) (inr m) = inr (in_mapped f x xs m)

-- a statement has a ship and an add for each read
pub ship_of : (s : Said) (r : ReadTerm) → In r s.reads → In (Ship r) (tasks_of s)
ship_of s r m = in_append_left (Ship r) (map Ship s.reads) (Base ∷ (map Add s.reads ++ (Store ∷ []))) (in_mapped Ship r s.reads m)

pub add_of : (s : Said) (r : ReadTerm) → In r s.reads → In (Add r) (tasks_of s)
add_of s r m =
    in_append_right (Add r) (map Ship s.reads) (Base ∷ (map Add s.reads ++ (Store ∷ [])))
    (inr (in_append_left (Add r) (map Add s.reads) (Store ∷ []) (in_mapped Add r s.reads m)))

-- of a nest that keeps its ranges: each statement, each task, each read
each_parts : (arrays : List Array) (statements : List Said) → each (statement_kept arrays) statements ≡ true → AllByRecursion (Parts arrays) statements
each_parts arrays [] k = tt
each_parts arrays (s ∷ statements) k =
    let p = and_parts (statement_kept arrays s) (each (statement_kept arrays) statements) k in
    (parts_of arrays s p.0, each_parts arrays statements p.1)

pub all_parts : (n : Sheet) → nest_kept n.grid n.arrays n.sweeps n.statements ≡ true → AllByRecursion (Parts n.arrays) n.statements
all_parts n kept = each_parts n.arrays n.statements (nest_parts n.grid n.arrays n.sweeps n.statements kept).each_statement

pub statement_parts_lem : (n : Sheet) → nest_kept n.grid n.arrays n.sweeps n.statements ≡ true → (s : Said) → In s n.statements → Parts n.arrays s
statement_parts_lem n kept s m = all_in (Parts n.arrays) n.statements s (all_parts n kept) m

pub task_kept_lem : (arrays : List Array) (s : Said) (t : Task) → Parts arrays s → In t (tasks_of s) → TaskKept arrays s t
task_kept_lem arrays s t kept m = all_in (TaskKept arrays s) (tasks_of s) t (tasks_kept arrays s kept) m

pub read_kept_lem : (arrays : List Array) (s : Said) (r : ReadTerm) → Parts arrays s → In r s.reads → access_kept 0 arrays s.i s.j r.source ≡ true
read_kept_lem arrays s r kept m = all_in (λ x. access_kept 0 arrays s.i s.j x.source ≡ true) s.reads r (reads_kept arrays s.i s.j s.reads kept.reads) m

-- one of two boards owns the target, so the other does not
one_owner : (source put other : Bool) → (other ≡ true → put ≡ false) → ((source && not put) && other) ≡ (other && source)
one_owner true true true f = let z = f refl in cc
one_owner true true false f = refl
one_owner true false true f = refl
one_owner true false false f = refl
one_owner false true true f = refl
one_owner false true false f = refl
one_owner false false true f = refl
one_owner false false false f = refl

module _ (n : Sheet) (deals : Deals) (kept : nest_kept n.grid n.arrays n.sweeps n.statements ≡ true) (fit : Fits n.grid n.arrays deals) (sound : AllSound deals) where
  pub spans_owned : SpansAreOwnedValues n deals
  spans_owned p s t h m mt =
      let parts = statement_parts_lem n kept s m in
      let task = task_kept_lem n.arrays s t parts mt in
      (span_values_lem (seat n.grid.rows deals p) s.i (i_owning s t) (i_fits n.grid n.arrays deals fit sound s parts p t task), span_values_lem (seat n.grid.rows deals p) s.j (j_owning s t) (j_fits n.grid n.arrays deals fit sound s parts p t task))

  pub parts_covered : PartsAreIterations n deals
  parts_covered p s t h m mt =
      let parts = statement_parts_lem n kept s m in
      parts_are_iterations n.grid n.arrays deals fit sound s parts p t (task_kept_lem n.arrays s t parts mt)

  -- the work of a task in the cells of a board is its work in all iterations
  pub work_covered : (p k : ℕ) (s : Said) (t : Task) → In s n.statements → In t (tasks_of s)
      → working (flat_map (λ cell. map (deed_in (seat n.grid.rows deals p) s cell) (t ∷ [])) (cells_of (seat n.grid.rows deals p) s (task_order (seat n.grid.rows deals p) k s t)))
      ≡ working (map (deed_of (seat n.grid.rows deals p) s t) (iterations s.i s.j))
  work_covered p k s t m mt =
      let parts = statement_parts_lem n kept s m in
      work_is_iterations n.grid n.arrays deals fit sound s parts p t (task_kept_lem n.arrays s t parts mt) k

  pub owners_are_boards : OwnersAreBoards n deals
  owners_are_boards s e m me =
      let parts = statement_parts_lem n kept s m in (
        board_there n.grid n.arrays deals fit sound s.put e (access_parts 1 n.arrays s.i s.j s.put parts.put).there,
        λ r mr. board_there n.grid n.arrays deals fit sound r.source e (access_parts 0 n.arrays s.i s.j r.source (read_kept_lem n.arrays s r parts mr)).there,
      )

  pub shipped_is_taken : ShippedIsTaken n deals
  shipped_is_taken p q s r hp hq apart m mr =
      let b = seat n.grid.rows deals p in
      let c = seat n.grid.rows deals q in
      let target : (Iteration → ℕ) = board_at b s.put in
      let source : (Iteration → ℕ) = board_at b r.source in
      let all = iterations s.i s.j in
      ap (filter (λ e. eqb (target e) q)) (parts_covered p s (Ship r) hp m (ship_of s r mr))
      ∙ kept_by_twice (λ e. eqb (target e) q) (takes_part b s (Ship r)) all
      ∙ kept_by_like (λ e. takes_part b s (Ship r) e && eqb (target e) q) (λ e. takes_part c s (Add r) e && eqb (source e) p) all (λ e. one_owner (eqb (source e) p) (eqb (target e) p) (eqb (target e) q) (λ hit. let at-q = eqb-true (target e) q hit in ne_eqb (target e) p (λ at_p. apart (sym at_p ∙ at-q))))
      ∙ sym (kept_by_twice (λ e. eqb (source e) p) (takes_part c s (Add r)) all)
      ∙ sym (ap (filter (λ e. eqb (source e) p)) (parts_covered q s (Add r) hq m (add_of s r mr)))

  pub steps_whatever : StepsWhateverTheMaps n deals
  steps_whatever others fit' sound' =
      let parts = all_parts n kept in
      steps_total_lem n others fit' sound' parts ∙ sym (steps_total_lem n deals fit sound parts)

-- the orders of a nest that keeps its ranges cover it, under deals of maps that fit
pub orders_cover : (n : Sheet) (deals : Deals) → nest_kept n.grid n.arrays n.sweeps n.statements ≡ true → Fits n.grid n.arrays deals → AllSound deals → OrdersCoverTheNest n deals
orders_cover n deals kept fit sound = record {
  spans = spans_owned n deals kept fit sound;
  parts = parts_covered n deals kept fit sound;
  owners = owners_are_boards n deals kept fit sound;
  shipped = shipped_is_taken n deals kept fit sound;
  steps = steps_whatever n deals kept fit sound;
}
