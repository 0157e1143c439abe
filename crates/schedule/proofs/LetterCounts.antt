-- How many letters the events of a nest put and take. Assumes nothing.
use Rattle.std.proofs.Common.{◌≡◌, ℕ, ◌+◌, ◌*◌, Bool, true, false, cond, eqb, List, [], ◌∷◌, ◌++◌, map, length, sum_by, sym, refl, ap, ◌∙◌, ⊎_elim, arith}
use Rattle.std.specs.List.{flat_map}
use Rattle.std.proofs.lemmas.List.Concat.{length-flat_map}
use Rattle.std.proofs.lemmas.List.Sums.{sum_by-cons, sum_by-append}
use Rattle.std.proofs.lemmas.Bool.{cases_Bool, cond_both, eq-eqb}
use Rattle.nest.specs.Terms.{Said, Sheet}
use Rattle.nest.specs.declared.terms.Mode.{Mode}
use Rattle.nest.specs.declared.terms.Mode.TheVariants.{All, Seq}
use Rattle.nest.specs.declared.terms.ReadTerm.{ReadTerm}
use Rattle.sections.specs.Order.{Element}
use Rattle.sections.specs.Sections.{Deals}
use Rattle.sequential.specs.Iterations.{iterations}
use Rattle.sequential.specs.declared.iteration.Iteration.{Iteration}
use Rattle.compiler.specs.Spans.{Seat, seat}
use Rattle.compiler.specs.Orders.{tasks_of}
use Rattle.compiler.specs.Cells.{element_at, board_at, owns_at}
use Rattle.compiler.specs.Deeds.{Deed, rests, ships, holds, adds_own, adds_taken, stores, deed_of}
use Rattle.compiler.specs.Totals.{letter_in, letters_for, letters_in, letters_of}
use Rattle.compiler.specs.declared.order.Task.{Task}
use Rattle.compiler.specs.declared.order.Task.TheVariants.{Ship, Base, Add, Store}
use Rattle.compiler.proofs.ListSums.{sums_alike, sums_plus, sums_none, sums_swap, sums_map}
use Rattle.schedule.specs.Memory.{Event}
use Rattle.schedule.specs.Events.{doer, event_for, event_in, pass_tasks, events_by, statement_events, sweep_events, nest_events}
use Rattle.schedule.specs.Laws.{puts_in, takes_in}
use Rattle.schedule.proofs.EventLists.{sums_joined, sums_again}
use Rattle.schedule.proofs.WaitingLetters.{eqb_turned}

-- a ship is put where source and target have different owners
ship_put : (x y : ℕ) (e : Element) → puts_in (cond (eqb x x) (cond (eqb y x) rests (ships y e)) rests) ≡ length {A = ℕ × ℕ} (cond (eqb x y) [] ((x, y) ∷ []))
ship_put x y e =
    ap (λ w. puts_in (cond w (cond (eqb y x) rests (ships y e)) rests)) (eq-eqb x x refl)
    ∙ ap (λ w. puts_in (cond w rests (ships y e))) (eqb_turned y x)
    ∙ by_test (eqb x y)
  where
    by_test : (w : Bool) → puts_in (cond w rests (ships y e)) ≡ length {A = ℕ × ℕ} (cond w [] ((x, y) ∷ []))
    by_test true = refl
    by_test false = refl

-- a term is taken where they have
term_taken : (c x y : ℕ) (r e : Element) → takes_in (cond (eqb y y) (cond (eqb x y) (adds_own c r e) (adds_taken c x e)) rests) ≡ length {A = ℕ × ℕ} (cond (eqb x y) [] ((x, y) ∷ []))
term_taken c x y r e =
    ap (λ w. takes_in (cond w (cond (eqb x y) (adds_own c r e) (adds_taken c x e)) rests)) (eq-eqb y y refl)
    ∙ ⊎_elim (λ same. rw same) (λ other. rw other) (cases_Bool (eqb x y))

-- what an event counts for, by its step
event_sum : (f : Deed → ℕ) → f rests ≡ 0 → (p : ℕ) (d : Deed) → sum_by (λ ev. f ev.1) (event_for p d) ≡ f d
event_sum f none p rests = sym none
event_sum f none p d = omega arith

-- what the task of an iteration counts for
abbrev counted : (Deed → ℕ) → ℕ → Deals → Said → Task → Iteration → ℕ
counted f q deals s t e = f (deed_of (seat q deals (doer q deals s t e)) s t e)

-- steps are counted by the letters of a statement's reads
pub record ByLetters (f : Deed → ℕ) (q : ℕ) (deals : Deals) (s : Said) : Type 0 where
  pub idle : f rests ≡ 0
  pub base : (e : Iteration) → counted f q deals s Base e ≡ 0
  pub store : (e : Iteration) → counted f q deals s Store e ≡ 0
  pub read : (r : ReadTerm) (e : Iteration) → counted f q deals s (Ship r) e + counted f q deals s (Add r) e ≡ length (letter_in (seat q deals 0) s r e)

pub puts_by_letters : (q : ℕ) (deals : Deals) (s : Said) → ByLetters puts_in q deals s
puts_by_letters q deals s = record {
  idle = refl;
  base = λ e. cond_both (owns_at (seat q deals (doer q deals s Base e)) s.put e) (holds s.base (element_at s.put e)) rests (λ d. puts_in d ≡ 0) (λ _. refl) (λ _. refl);
  store = λ e. cond_both (owns_at (seat q deals (doer q deals s Store e)) s.put e) (stores (element_at s.put e)) rests (λ d. puts_in d ≡ 0) (λ _. refl) (λ _. refl);
  read = λ r e. omega (arith, ship_put (board_at (seat q deals 0) r.source e) (board_at (seat q deals 0) s.put e) (element_at r.source e), no_add r e);
}
  where
    no_add : (r : ReadTerm) (e : Iteration) → counted puts_in q deals s (Add r) e ≡ 0
    no_add r e =
        let b : Seat = seat q deals (doer q deals s (Add r) e) in
        let own : Deed = adds_own r.coefficient (element_at r.source e) (element_at s.put e) in
        let taken : Deed = adds_taken r.coefficient (board_at b r.source e) (element_at s.put e) in
        cond_both (owns_at b s.put e) (cond (owns_at b r.source e) own taken) rests (λ d. puts_in d ≡ 0)
        (λ _. cond_both (owns_at b r.source e) own taken (λ d. puts_in d ≡ 0) (λ _. refl) (λ _. refl))
        (λ _. refl)

pub takes_by_letters : (q : ℕ) (deals : Deals) (s : Said) → ByLetters takes_in q deals s
takes_by_letters q deals s = record {
  idle = refl;
  base = λ e. cond_both (owns_at (seat q deals (doer q deals s Base e)) s.put e) (holds s.base (element_at s.put e)) rests (λ d. takes_in d ≡ 0) (λ _. refl) (λ _. refl);
  store = λ e. cond_both (owns_at (seat q deals (doer q deals s Store e)) s.put e) (stores (element_at s.put e)) rests (λ d. takes_in d ≡ 0) (λ _. refl) (λ _. refl);
  read = λ r e. omega (arith, term_taken r.coefficient (board_at (seat q deals 0) r.source e) (board_at (seat q deals 0) s.put e) (element_at r.source e) (element_at s.put e), no_ship r e);
}
  where
    no_ship : (r : ReadTerm) (e : Iteration) → counted takes_in q deals s (Ship r) e ≡ 0
    no_ship r e =
        let b : Seat = seat q deals (doer q deals s (Ship r) e) in
        let ship : Deed = ships (board_at b s.put e) (element_at r.source e) in
        cond_both (owns_at b r.source e) (cond (owns_at b s.put e) rests ship) rests (λ d. takes_in d ≡ 0)
        (λ _. cond_both (owns_at b s.put e) rests ship (λ d. takes_in d ≡ 0) (λ _. refl) (λ _. refl))
        (λ _. refl)

-- a sum over the tasks of a statement, in either order, where base and store count nothing
tasks_sum : (w : Task → ℕ) (s : Said) → w Base ≡ 0 → w Store ≡ 0 → sum_by w (tasks_of s) ≡ sum_by (λ r. w (Ship r) + w (Add r)) s.reads
tasks_sum w s base store =
    let reads : List ReadTerm = s.reads in
    omega (arith, sum_by-append w (map Ship reads) (Base ∷ (map Add reads ++ (Store ∷ []))), sum_by-cons w Base (map Add reads ++ (Store ∷ [])), sum_by-append w (map Add reads) (Store ∷ []), sum_by-cons w Store [], sums_map w Ship reads, sums_map w Add reads, sums_plus (λ r. w (Ship r)) (λ r. w (Add r)) reads)

passes_sum : (w : Task → ℕ) (s : Said) → w Base ≡ 0 → w Store ≡ 0 → sum_by w (pass_tasks s) ≡ sum_by (λ r. w (Ship r) + w (Add r)) s.reads
passes_sum w s base store =
    let reads : List ReadTerm = s.reads in
    let pairs : List Task = flat_map (λ r. Ship r ∷ (Add r ∷ [])) reads in
    let each : sum_by w pairs ≡ sum_by (λ r. w (Ship r) + w (Add r)) reads =
    sums_joined w (λ r. Ship r ∷ (Add r ∷ [])) reads ∙ sums_alike (λ r. sum_by w (Ship r ∷ (Add r ∷ []))) (λ r. w (Ship r) + w (Add r)) reads (λ r. omega (arith, sum_by-cons w (Ship r) (Add r ∷ []), sum_by-cons w (Add r) [])) in
    omega (arith, sum_by-cons w Base (pairs ++ (Store ∷ [])), sum_by-append w pairs (Store ∷ []), sum_by-cons w Store [])

module _ (f : Deed → ℕ) (q : ℕ) (deals : Deals) (s : Said) (by : ByLetters f q deals s) where
  abbrev weight : Event → ℕ
  weight ev = f ev.1

  abbrev each_read : ReadTerm → Iteration → ℕ
  each_read r e = length (letter_in (seat q deals 0) s r e)

  -- the letters of a statement, read by read and iteration by iteration
  letters_sum : length (letters_in (seat q deals 0) s) ≡ sum_by (λ r. sum_by (each_read r) (iterations s.i s.j)) s.reads
  letters_sum =
      let b : Seat = seat q deals 0 in
      length-flat_map (letters_for b s) s.reads
      ∙ sums_alike (λ r. length (letters_for b s r)) (λ r. sum_by (each_read r) (iterations s.i s.j)) s.reads (λ r. length-flat_map (letter_in b s r) (iterations s.i s.j))

  all_weighs : sum_by weight (events_by All q deals s) ≡ length (letters_in (seat q deals 0) s)
  all_weighs =
      let es : List Iteration = iterations s.i s.j in
      let w : Task → ℕ = λ t. sum_by (counted f q deals s t) es in
      let none : (t : Task) → ((e : Iteration) → counted f q deals s t e ≡ 0) → w t ≡ 0 = λ t zero-at. sums_alike (counted f q deals s t) (λ _. 0) es zero-at ∙ sums_none es in
      sums_joined weight (λ t. flat_map (event_in q deals s t) es) (tasks_of s)
      ∙ sums_alike (λ t. sum_by weight (flat_map (event_in q deals s t) es)) w (tasks_of s)
      (λ t. sums_joined weight (event_in q deals s t) es ∙ sums_alike (λ e. sum_by weight (event_in q deals s t e)) (counted f q deals s t) es (λ e. event_sum f by.idle (doer q deals s t e) (deed_of (seat q deals (doer q deals s t e)) s t e)))
      ∙ tasks_sum w s (none Base by.base) (none Store by.store)
      ∙ sums_alike (λ r. w (Ship r) + w (Add r)) (λ r. sum_by (each_read r) es) s.reads
      (λ r. sym (sums_plus (counted f q deals s (Ship r)) (counted f q deals s (Add r)) es) ∙ sums_alike (λ e. counted f q deals s (Ship r) e + counted f q deals s (Add r) e) (each_read r) es (by.read r))
      ∙ sym letters_sum

  seq_weighs : sum_by weight (events_by Seq q deals s) ≡ length (letters_in (seat q deals 0) s)
  seq_weighs =
      let es : List Iteration = iterations s.i s.j in
      let one : (e : Iteration) → sum_by weight (flat_map (λ t. event_in q deals s t e) (pass_tasks s)) ≡ sum_by (λ r. each_read r e) s.reads = λ e.
      sums_joined weight (λ t. event_in q deals s t e) (pass_tasks s)
      ∙ sums_alike (λ t. sum_by weight (event_in q deals s t e)) (λ t. counted f q deals s t e) (pass_tasks s) (λ t. event_sum f by.idle (doer q deals s t e) (deed_of (seat q deals (doer q deals s t e)) s t e))
      ∙ passes_sum (λ t. counted f q deals s t e) s (by.base e) (by.store e)
      ∙ sums_alike (λ r. counted f q deals s (Ship r) e + counted f q deals s (Add r) e) (λ r. each_read r e) s.reads (λ r. by.read r e) in
      sums_joined weight (λ e. flat_map (λ t. event_in q deals s t e) (pass_tasks s)) es
      ∙ sums_alike (λ e. sum_by weight (flat_map (λ t. event_in q deals s t e) (pass_tasks s))) (λ e. sum_by (λ r. each_read r e) s.reads) es one
      ∙ sums_swap (λ e r. each_read r e) es s.reads
      ∙ sym letters_sum

  statement_weighs : (m : Mode) → sum_by weight (events_by m q deals s) ≡ length (letters_in (seat q deals 0) s)
  statement_weighs All = all_weighs
  statement_weighs Seq = seq_weighs

-- the letters of the whole nest
pub nest_letters : (f : Deed → ℕ) (n : Sheet) (deals : Deals) → ((s : Said) → ByLetters f n.grid.rows deals s) → sum_by (λ ev. f ev.1) (nest_events n deals) ≡ letters_of n deals
nest_letters f n deals by =
    let q : ℕ = n.grid.rows in
    sums_again (λ ev. f ev.1) n.sweeps (sweep_events q deals n.statements)
    ∙ ap (λ x. n.sweeps * x)
    (sums_joined (λ ev. f ev.1) (statement_events q deals) n.statements ∙ sums_alike (λ s. sum_by (λ ev. f ev.1) (statement_events q deals s)) (λ s. length (letters_in (seat q deals 0) s)) n.statements (λ s. statement_weighs f q deals s (by s) s.mode))
