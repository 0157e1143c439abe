-- The share of a board in the events of a nest is what it has to do, steps that do nothing aside. Assumes nothing.
use Rattle.std.proofs.Common.{◌≡◌, ℕ, ◌+◌, Bool, true, false, cond, eqb, List, [], ◌∷◌, ◌++◌, map, filter, None, Option, sym, refl, ap, ◌∙◌, ap₂, inl, inr, ⊎_elim}
use Rattle.std.specs.List.{flat_map}
use Rattle.std.proofs.lemmas.List.Elements.{filter-append}
use Rattle.std.proofs.lemmas.List.{append-nil, map-append}
use Rattle.std.proofs.lemmas.List.Concat.{flat_map-append, flat_map_single}
use Rattle.std.proofs.lemmas.List.Folds.{flat_map-map}
use Rattle.std.proofs.lemmas.Bool.{cases_Bool, eqb-true}
use Rattle.nest.specs.Terms.{Said, Sheet}
use Rattle.nest.specs.Sound.{nest_kept}
use Rattle.nest.specs.declared.terms.Mode.{Mode}
use Rattle.nest.specs.declared.terms.Mode.TheVariants.{All, Seq}
use Rattle.nest.specs.declared.terms.ReadTerm.{ReadTerm}
use Rattle.sections.specs.Sections.{Deals, Fits}
use Rattle.sequential.specs.Iterations.{values_of, row_of, iterations}
use Rattle.sequential.specs.Laws.{In}
use Rattle.sequential.specs.declared.iteration.Iteration.{Iteration}
use Rattle.compiler.specs.Spans.{Seat, seat, span_of, span_values}
use Rattle.compiler.specs.Orders.{tasks_of, task_order, walk_order, orders_by, numbered}
use Rattle.compiler.specs.Cells.{cells_of, owns_at, present}
use Rattle.compiler.specs.Deeds.{Deed, rests, works, working, deed_of, deed_in, order_deeds, statement_deeds, sweep_deeds}
use Rattle.compiler.specs.Laws.{AllSound}
use Rattle.compiler.specs.declared.order.Task.{Task}
use Rattle.compiler.specs.declared.order.Task.TheVariants.{Ship, Base, Add, Store}
use Rattle.compiler.proofs.FilteredLists.{joined_joined, joined_like, joined_nothing, present_all}
use Rattle.compiler.proofs.CellParts.{present_cells, joined_present}
use Rattle.compiler.proofs.OrderLaws.{work_covered}
use Rattle.schedule.specs.Memory.{Event, share_of}
use Rattle.schedule.specs.Events.{doer, event_for, event_in, pass_tasks, events_by, statement_events, again, sweep_events, nest_events, nest_deeds}
use Rattle.schedule.proofs.EventLists.{joined_same, over_joined, over_again}

-- shares and working steps of lists one after the other
pub share_append : (p : ℕ) (xs ys : List Event) → share_of p (xs ++ ys) ≡ share_of p xs ++ share_of p ys
share_append p xs ys =
    ap (map (λ ev. ev.1)) (filter-append (λ ev. eqb ev.0 p) xs ys)
    ∙ map-append (λ ev. ev.1) (filter (λ ev. eqb ev.0 p) xs) (filter (λ ev. eqb ev.0 p) ys)

pub share_joined : {X : Type 0} (p : ℕ) (f : X → List Event) (xs : List X) → share_of p (flat_map f xs) ≡ flat_map (λ x. share_of p (f x)) xs
share_joined p f xs = over_joined (share_of p) refl (share_append p) f xs

pub working_joined : {X : Type 0} (f : X → List Deed) (xs : List X) → working (flat_map f xs) ≡ flat_map (λ x. working (f x)) xs
working_joined f xs = over_joined working refl (filter-append works) f xs

-- step by step
pub working_map : {X : Type 0} (f : X → Deed) (xs : List X) → working (map f xs) ≡ flat_map (λ x. working (f x ∷ [])) xs
working_map f xs = ap working (sym (flat_map_single f xs)) ∙ working_joined (λ x. f x ∷ []) xs

-- the share of a board in one event
event_share : (p o : ℕ) (d : Deed) (w own : Bool) → works d ≡ w → eqb o p ≡ own → share_of p (event_for o d) ≡ cond own (working (d ∷ [])) []
event_share p o d true true e f = rw (e, f)
event_share p o d true false e f = rw (e, f)
event_share p o d false true e f = rw e
event_share p o d false false e f = rw e

-- a board that is not the doer of a task rests
idle_share : (q : ℕ) (deals : Deals) (s : Said) (t : Task) (e : Iteration) (p : ℕ) → eqb (doer q deals s t e) p ≡ false → working (deed_of (seat q deals p) s t e ∷ []) ≡ []
idle_share q deals s (Ship r) e p none = rw none
idle_share q deals s Base e p none = rw none
idle_share q deals s (Add r) e p none = rw none
idle_share q deals s Store e p none = rw none

-- the share of a board in the event of a task is the step that it does for it
pub one_share : (q : ℕ) (deals : Deals) (s : Said) (p : ℕ) (t : Task) (e : Iteration) → share_of p (event_in q deals s t e) ≡ working (deed_of (seat q deals p) s t e ∷ [])
one_share q deals s p t e =
    let o : ℕ = doer q deals s t e in
    let d : Deed = deed_of (seat q deals o) s t e in
    event_share p o d (works d) (eqb o p) refl refl
    ∙ ⊎_elim
    (λ own. let same : o ≡ p = eqb-true o p own in rw own (ap (λ x. working (deed_of (seat q deals x) s t e ∷ [])) same))
    (λ none. rw none (sym (idle_share q deals s t e p none)))
    (cases_Bool (eqb o p))

-- the tasks of an iteration in the two orders give one list, where either the ships or all else gives nothing
by_reads : {A : Type 0} (w : Task → List A) (reads : List ReadTerm) → flat_map w (flat_map (λ r. Ship r ∷ (Add r ∷ [])) reads) ≡ flat_map (λ r. w (Ship r) ++ w (Add r)) reads
by_reads w reads =
    joined_joined w (λ r. Ship r ∷ (Add r ∷ [])) reads
    ∙ joined_like (λ r. w (Ship r) ++ (w (Add r) ++ [])) (λ r. w (Ship r) ++ w (Add r)) reads (λ r. ap (λ x. w (Ship r) ++ x) (append-nil (w (Add r))))

no_ships : {A : Type 0} (w : Task → List A) (s : Said) → ((r : ReadTerm) → w (Ship r) ≡ []) → flat_map w (tasks_of s) ≡ flat_map w (pass_tasks s)
no_ships w s none =
    let reads : List ReadTerm = s.reads in
    let adds : flat_map w (map Add reads) ≡ flat_map w (flat_map (λ r. Ship r ∷ (Add r ∷ [])) reads) =
    flat_map-map w Add reads ∙ sym (by_reads w reads ∙ joined_like (λ r. w (Ship r) ++ w (Add r)) (λ r. w (Add r)) reads (λ r. ap (λ x. x ++ w (Add r)) (none r))) in
    flat_map-append w (map Ship reads) (Base ∷ (map Add reads ++ (Store ∷ [])))
    ∙ ap (λ x. x ++ flat_map w (Base ∷ (map Add reads ++ (Store ∷ [])))) (flat_map-map w Ship reads ∙ joined_nothing (λ r. w (Ship r)) reads none)
    ∙ ap (λ x. w Base ++ x) (flat_map-append w (map Add reads) (Store ∷ []) ∙ ap (λ x. x ++ flat_map w (Store ∷ [])) adds ∙ sym (flat_map-append w (flat_map (λ r. Ship r ∷ (Add r ∷ [])) reads) (Store ∷ [])))

only_ships : {A : Type 0} (w : Task → List A) (s : Said) → w Base ≡ [] → ((r : ReadTerm) → w (Add r) ≡ []) → w Store ≡ [] → flat_map w (tasks_of s) ≡ flat_map w (pass_tasks s)
only_ships w s no-base no-adds no_store =
    let reads : List ReadTerm = s.reads in
    let last : flat_map w (Store ∷ []) ≡ [] = append-nil (w Store) ∙ no_store in
    let adds : flat_map w (map Add reads) ≡ [] = flat_map-map w Add reads ∙ joined_nothing (λ r. w (Add r)) reads no-adds in
    let ships : flat_map w (flat_map (λ r. Ship r ∷ (Add r ∷ [])) reads) ≡ flat_map w (map Ship reads) =
    by_reads w reads ∙ joined_like (λ r. w (Ship r) ++ w (Add r)) (λ r. w (Ship r)) reads (λ r. ap (λ x. w (Ship r) ++ x) (no-adds r) ∙ append-nil (w (Ship r))) ∙ sym (flat_map-map w Ship reads) in
    let rest : flat_map w (Base ∷ (map Add reads ++ (Store ∷ []))) ≡ [] = ap₂ (λ a b. a ++ b) no-base (flat_map-append w (map Add reads) (Store ∷ []) ∙ ap₂ (λ a b. a ++ b) adds last) in
    let front : flat_map w (tasks_of s) ≡ flat_map w (map Ship reads) =
    flat_map-append w (map Ship reads) (Base ∷ (map Add reads ++ (Store ∷ []))) ∙ ap (λ x. flat_map w (map Ship reads) ++ x) rest ∙ append-nil (flat_map w (map Ship reads)) in
    let pass : flat_map w (pass_tasks s) ≡ flat_map w (map Ship reads) =
    ap₂ (λ a b. a ++ b) no-base (flat_map-append w (flat_map (λ r. Ship r ∷ (Add r ∷ [])) reads) (Store ∷ []) ∙ ap₂ (λ a b. a ++ b) ships last) ∙ append-nil (flat_map w (map Ship reads)) in
    front ∙ sym pass

-- what a board does for a task in an iteration, as a list of one or none
abbrev done_in : Seat → Said → Iteration → Task → List Deed
done_in b s e t = working (deed_of b s t e ∷ [])

-- the owner of a target ships nothing for it
owner_ships_none : (b : Seat) (s : Said) (e : Iteration) → owns_at b s.put e ≡ true → (r : ReadTerm) → done_in b s e (Ship r) ≡ []
owner_ships_none b s e own r = rw own (either (owns_at b r.source e))
  where
    either : (x : Bool) → working (cond x rests rests ∷ []) ≡ []
    either true = refl
    either false = refl

-- in one iteration both orders of the tasks give a board the same
pub tasks_either_way : (b : Seat) (s : Said) (e : Iteration) → flat_map (done_in b s e) (tasks_of s) ≡ flat_map (done_in b s e) (pass_tasks s)
tasks_either_way b s e =
    ⊎_elim
    (λ own. no_ships (done_in b s e) s (owner_ships_none b s e own))
    (λ none. only_ships (done_in b s e) s (rw none) (λ r. rw none) (rw none))
    (cases_Bool (owns_at b s.put e))

pub pass_share : (q : ℕ) (deals : Deals) (s : Said) (p : ℕ) (e : Iteration)
    → share_of p (flat_map (λ t. event_in q deals s t e) (pass_tasks s)) ≡ working (map (λ t. deed_of (seat q deals p) s t e) (tasks_of s))
pass_share q deals s p e =
    let b : Seat = seat q deals p in
    share_joined p (λ t. event_in q deals s t e) (pass_tasks s)
    ∙ joined_like (λ t. share_of p (event_in q deals s t e)) (done_in b s e) (pass_tasks s) (λ t. one_share q deals s p t e)
    ∙ sym (tasks_either_way b s e)
    ∙ sym (working_map (λ t. deed_of b s t e) (tasks_of s))

-- a walk comes to every iteration
idle_cell : (tasks : List Task) → working (map (λ _. rests) tasks) ≡ []
idle_cell [] = refl
idle_cell (t ∷ tasks) = idle_cell tasks

walk_cells : (b : Seat) (k : ℕ) (s : Said) → present (cells_of b s (walk_order b k s)) ≡ iterations s.i s.j
walk_cells b k s =
    present_cells (span_values b s.j (span_of b None s.j)) (span_values b s.i (span_of b None s.i))
    ∙ ap₂ (λ js is. flat_map (row_of js) is) (present_all (values_of s.j)) (present_all (values_of s.i))

walk_work : (b : Seat) (k : ℕ) (s : Said) → working (order_deeds b s (walk_order b k s)) ≡ flat_map (λ e. working (map (λ t. deed_of b s t e) (tasks_of s))) (iterations s.i s.j)
walk_work b k s =
    let cells : List (Option Iteration) = cells_of b s (walk_order b k s) in
    working_joined (λ cell. map (deed_in b s cell) (tasks_of s)) cells
    ∙ joined_present (λ cell. working (map (deed_in b s cell) (tasks_of s))) cells (idle_cell (tasks_of s))
    ∙ ap (flat_map (λ e. working (map (λ t. deed_of b s t e) (tasks_of s)))) (walk_cells b k s)

-- each statement with its number
numbered_joined : {X A : Type 0} (f : ℕ × X → List A) (g : X → List A) (n : ℕ) (xs : List X) → ((k : ℕ) (x : X) → In x xs → f (k, x) ≡ g x) → flat_map f (numbered n xs) ≡ flat_map g xs
numbered_joined f g n [] same = refl
numbered_joined f g n (x ∷ xs) same = ap₂ (λ a b. a ++ b) (same n x (inl refl)) (numbered_joined f g (n + 1) xs (λ k y m. same k y (inr m)))

module _ (n : Sheet) (deals : Deals) (kept : nest_kept n.grid n.arrays n.sweeps n.statements ≡ true) (fit : Fits n.grid n.arrays deals) (sound : AllSound deals) (p : ℕ) where
  -- the share of a board in one run of a statement: task by task, or iteration by iteration
  all_share : (k : ℕ) (s : Said) → In s n.statements
      → share_of p (events_by All n.grid.rows deals s) ≡ working (flat_map (order_deeds (seat n.grid.rows deals p) s) (orders_by All (seat n.grid.rows deals p) k s))
  all_share k s m =
      let q : ℕ = n.grid.rows in
      let b : Seat = seat q deals p in
      let es : List Iteration = iterations s.i s.j in
      let task : (t : Task) → In t (tasks_of s) → share_of p (flat_map (event_in q deals s t) es) ≡ working (order_deeds b s (task_order b k s t)) = λ t mt.
      share_joined p (event_in q deals s t) es
      ∙ joined_like (λ e. share_of p (event_in q deals s t e)) (λ e. working (deed_of b s t e ∷ [])) es (one_share q deals s p t)
      ∙ sym (working_map (deed_of b s t) es)
      ∙ sym (work_covered n deals kept fit sound p k s t m mt) in
      share_joined p (λ t. flat_map (event_in q deals s t) es) (tasks_of s)
      ∙ joined_same (λ t. share_of p (flat_map (event_in q deals s t) es)) (λ t. working (order_deeds b s (task_order b k s t))) (tasks_of s) task
      ∙ sym (flat_map-map (λ o. working (order_deeds b s o)) (task_order b k s) (tasks_of s))
      ∙ sym (working_joined (order_deeds b s) (map (task_order b k s) (tasks_of s)))

  seq_share : (k : ℕ) (s : Said)
      → share_of p (events_by Seq n.grid.rows deals s) ≡ working (flat_map (order_deeds (seat n.grid.rows deals p) s) (orders_by Seq (seat n.grid.rows deals p) k s))
  seq_share k s =
      let q : ℕ = n.grid.rows in
      let b : Seat = seat q deals p in
      let es : List Iteration = iterations s.i s.j in
      share_joined p (λ e. flat_map (λ t. event_in q deals s t e) (pass_tasks s)) es
      ∙ joined_like (λ e. share_of p (flat_map (λ t. event_in q deals s t e) (pass_tasks s))) (λ e. working (map (λ t. deed_of b s t e) (tasks_of s))) es (pass_share q deals s p)
      ∙ sym (walk_work b k s)
      ∙ ap working (sym (append-nil (order_deeds b s (walk_order b k s))))

  by_mode : (m : Mode) (k : ℕ) (s : Said) → In s n.statements
      → share_of p (events_by m n.grid.rows deals s) ≡ working (flat_map (order_deeds (seat n.grid.rows deals p) s) (orders_by m (seat n.grid.rows deals p) k s))
  by_mode All k s m = all_share k s m
  by_mode Seq k s m = seq_share k s

  -- of the whole nest
  pub nest_share : share_of p (nest_events n deals) ≡ working (nest_deeds n deals p)
  nest_share =
      let q : ℕ = n.grid.rows in
      let b : Seat = seat q deals p in
      let sweep : share_of p (sweep_events q deals n.statements) ≡ working (sweep_deeds b n.statements) =
      share_joined p (statement_events q deals) n.statements
      ∙ sym (numbered_joined (λ ks. working (statement_deeds b ks)) (λ s. share_of p (statement_events q deals s)) 0 n.statements (λ k s m. sym (by_mode s.mode k s m)))
      ∙ sym (working_joined (statement_deeds b) (numbered 0 n.statements)) in
      over_again (share_of p) refl (share_append p) n.sweeps (sweep_events q deals n.statements)
      ∙ ap (again n.sweeps) sweep
      ∙ sym (over_again working refl (filter-append works) n.sweeps (sweep_deeds b n.statements))
