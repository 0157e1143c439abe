-- Every event of a nest is by a board of its grid, and touches only elements that are there and belong to that board. Assumes nothing.
use Rattle.std.proofs.Common.{◌≡◌, ℕ, ◌<◌, true, cond, List, [], ◌∷◌, ◌++◌, map, refl, inl, inr}
use Rattle.std.specs.List.{flat_map, AllByRecursion}
use Rattle.std.proofs.ByRecursion.{All-append, All-map}
use Rattle.std.proofs.lemmas.Bool.{cond_both, eqb-true}
use Rattle.nest.specs.Terms.{Said, Sheet}
use Rattle.nest.specs.Sound.{nest_kept}
use Rattle.nest.specs.declared.terms.Mode.{Mode}
use Rattle.nest.specs.declared.terms.Mode.TheVariants.{All as Together, Seq}
use Rattle.nest.specs.declared.terms.ReadTerm.{ReadTerm}
use Rattle.sections.specs.Sections.{Deals, Fits}
use Rattle.sequential.specs.Iterations.{iterations}
use Rattle.sequential.specs.Laws.{In}
use Rattle.sequential.specs.declared.iteration.Iteration.{Iteration}
use Rattle.compiler.specs.Spans.{Seat, seat}
use Rattle.compiler.specs.Orders.{tasks_of}
use Rattle.compiler.specs.Cells.{element_at, board_at, owns_at}
use Rattle.compiler.specs.Deeds.{Deed, rests, ships, holds, adds_own, adds_taken, stores, works, deed_of}
use Rattle.compiler.specs.Laws.{AllSound}
use Rattle.compiler.specs.Totals.{boards_of}
use Rattle.compiler.specs.declared.order.Task.{Task}
use Rattle.compiler.specs.declared.order.Task.TheVariants.{Ship, Base, Add, Store}
use Rattle.compiler.proofs.FilteredLists.{all_in}
use Rattle.compiler.proofs.OrderLaws.{statement_parts_lem, owners_are_boards}
use Rattle.schedule.specs.Memory.{Event, AtHome}
use Rattle.schedule.specs.Events.{owner_in, doer, event_for, event_in, pass_tasks, events_by, sweep_events, statement_events, nest_events}
use Rattle.schedule.specs.Start.{There}
use Rattle.schedule.proofs.ElementsThere.{target_there, read_there}
use Rattle.schedule.proofs.EventLists.{all_joined, all_again}

-- what holds of the step holds of its event, if there is one
of_event : (P : Event → Type 0) (p : ℕ) (d : Deed) → P (p, d) → AllByRecursion P (event_for p d)
of_event P p d so = cond_both (works d) ((p, d) ∷ []) [] (AllByRecursion P) (λ _. (so, tt)) (λ _. tt)

-- one of each of a list
all_each : {X : Type 0} (P : X → Type 0) (xs : List X) → ((x : X) → In x xs → P x) → AllByRecursion P xs
all_each P [] each = tt
all_each P (x ∷ xs) each = (each x (inl refl), all_each P xs (λ y m. each y (inr m)))

-- the reads that a task goes by are some of the statement's
abbrev ReadsOf : Said → Task → Type 0
ReadsOf s (Ship r) = In r s.reads
ReadsOf s (Add r) = In r s.reads
ReadsOf s _ = Unit {0}

tasks_read : (s : Said) → AllByRecursion (ReadsOf s) (tasks_of s)
tasks_read s =
    All-append (ReadsOf s) (map Ship s.reads) (Base ∷ (map Add s.reads ++ (Store ∷ [])))
    (All-map (ReadsOf s) Ship s.reads (all_each (λ r. In r s.reads) s.reads (λ r m. m)))
    (tt, All-append (ReadsOf s) (map Add s.reads) (Store ∷ []) (All-map (ReadsOf s) Add s.reads (all_each (λ r. In r s.reads) s.reads (λ r m. m))) (tt, tt))

passes_read : (s : Said) → AllByRecursion (ReadsOf s) (pass_tasks s)
passes_read s =
    (tt, All-append (ReadsOf s) (flat_map (λ r. Ship r ∷ (Add r ∷ [])) s.reads) (Store ∷ []) (all_joined (ReadsOf s) (λ r. Ship r ∷ (Add r ∷ [])) s.reads (λ r m. (m, (m, tt)))) (tt, tt))

-- an event at home
abbrev pub Home : Sheet → Deals → Event → Type 0
Home n deals ev = (ev.0 < boards_of n.grid) × AtHome (There n.arrays) (owner_in n.grid.rows deals) ev.0 ev.1

module _ (n : Sheet) (deals : Deals) (kept : nest_kept n.grid n.arrays n.sweeps n.statements ≡ true) (fit : Fits n.grid n.arrays deals) (sound : AllSound deals) where
  abbrev HomeDeed : ℕ → Deed → Type 0
  HomeDeed p d = AtHome (There n.arrays) (owner_in n.grid.rows deals) p d

  -- the elements that a statement names in an iteration are there
  module _ (s : Said) (m : In s n.statements) (e : Iteration) (me : In e (iterations s.i s.j)) where
    target_here : There n.arrays (element_at s.put e)
    target_here = target_there n.arrays s (statement_parts_lem n kept s m) e me

    source_here : (r : ReadTerm) → In r s.reads → There n.arrays (element_at r.source e)
    source_here = read_there n.arrays s (statement_parts_lem n kept s m) e me

    -- whatever a board does for a task is at home with it
    deed_home : (p : ℕ) (t : Task) → ReadsOf s t → HomeDeed p (deed_of (seat n.grid.rows deals p) s t e)
    deed_home p (Ship r) mr =
        let b : Seat = seat n.grid.rows deals p in
        cond_both (owns_at b r.source e) (cond (owns_at b s.put e) rests (ships (board_at b s.put e) (element_at r.source e))) rests (HomeDeed p)
        (λ own. cond_both (owns_at b s.put e) rests (ships (board_at b s.put e) (element_at r.source e)) (HomeDeed p) (λ _. tt) (λ _. (source_here r mr, eqb-true (board_at b r.source e) p own)))
        (λ _. tt)
    deed_home p Base mr =
        let b : Seat = seat n.grid.rows deals p in
        cond_both (owns_at b s.put e) (holds s.base (element_at s.put e)) rests (HomeDeed p) (λ own. (target_here, eqb-true (board_at b s.put e) p own)) (λ _. tt)
    deed_home p (Add r) mr =
        let b : Seat = seat n.grid.rows deals p in
        let own-term : Deed = adds_own r.coefficient (element_at r.source e) (element_at s.put e) in
        let taken-term : Deed = adds_taken r.coefficient (board_at b r.source e) (element_at s.put e) in
        cond_both (owns_at b s.put e) (cond (owns_at b r.source e) own-term taken-term) rests (HomeDeed p)
        (λ own. cond_both (owns_at b r.source e) own-term taken-term (HomeDeed p)
        (λ from. (source_here r mr, eqb-true (board_at b r.source e) p from, target_here, eqb-true (board_at b s.put e) p own))
        (λ _. (target_here, eqb-true (board_at b s.put e) p own)))
        (λ _. tt)
    deed_home p Store mr =
        let b : Seat = seat n.grid.rows deals p in
        cond_both (owns_at b s.put e) (stores (element_at s.put e)) rests (HomeDeed p) (λ own. (target_here, eqb-true (board_at b s.put e) p own)) (λ _. tt)

    doer_there : (t : Task) → ReadsOf s t → doer n.grid.rows deals s t e < boards_of n.grid
    doer_there (Ship r) mr = (owners_are_boards n deals kept fit sound s e m me).1 r mr
    doer_there t mr = (owners_are_boards n deals kept fit sound s e m me).0

    event_home : (t : Task) → ReadsOf s t → AllByRecursion (Home n deals) (event_in n.grid.rows deals s t e)
    event_home t mr =
        let o : ℕ = doer n.grid.rows deals s t e in
        of_event (Home n deals) o (deed_of (seat n.grid.rows deals o) s t e) (doer_there t mr, deed_home o t mr)

  statement_home : (w : Mode) (s : Said) → In s n.statements → AllByRecursion (Home n deals) (events_by w n.grid.rows deals s)
  statement_home Together s m =
      all_joined (Home n deals) (λ t. flat_map (event_in n.grid.rows deals s t) (iterations s.i s.j)) (tasks_of s)
      (λ t mt. all_joined (Home n deals) (event_in n.grid.rows deals s t) (iterations s.i s.j) (λ e me. event_home s m e me t (all_in (ReadsOf s) (tasks_of s) t (tasks_read s) mt)))
  statement_home Seq s m =
      all_joined (Home n deals) (λ e. flat_map (λ t. event_in n.grid.rows deals s t e) (pass_tasks s)) (iterations s.i s.j)
      (λ e me. all_joined (Home n deals) (λ t. event_in n.grid.rows deals s t e) (pass_tasks s) (λ t mt. event_home s m e me t (all_in (ReadsOf s) (pass_tasks s) t (passes_read s) mt)))

  -- of the whole nest
  pub nest_home : AllByRecursion (Home n deals) (nest_events n deals)
  nest_home =
      all_again (Home n deals) n.sweeps (sweep_events n.grid.rows deals n.statements)
      (all_joined (Home n deals) (statement_events n.grid.rows deals) n.statements (λ s m. statement_home s.mode s m))
