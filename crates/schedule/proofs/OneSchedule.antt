-- One schedule completes every nest, given that events are carried out and that statements happen. Assumes nothing.
use Rattle.std.proofs.Common.{◌≡◌, ℕ, ◌+◌, ◌<◌, List, [], length, sum_by, sym, refl, ap, ◌∙◌, arith}
use Rattle.std.specs.List.{range_with_len}
use Rattle.nest.specs.Terms.{Sheet}
use Rattle.layout.specs.Places.{total}
use Rattle.sections.specs.Sections.{Deals}
use Rattle.sequential.specs.Run.{Setting, setting_of, buffers_of, sequential_of}
use Rattle.sequential.proofs.Lists.{in_counting}
use Rattle.network.specs.Network.{State}
use Rattle.network.specs.Request.{request}
use Rattle.network.specs.Runs.{state_after, HasEnded}
use Rattle.network.proofs.Rules.{ended}
use Rattle.compiler.specs.Deeds.{working}
use Rattle.compiler.specs.Totals.{boards_of, depth_of}
use Rattle.schedule.specs.Boards.{Own, boards_that, next_of}
use Rattle.schedule.specs.Memory.{Memory, after_events}
use Rattle.schedule.specs.Events.{owner_in, nest_events, nest_deeds}
use Rattle.schedule.specs.Start.{There, Tied, Loaded}
use Rattle.schedule.specs.Laws.{puts_in, takes_in, CarriedOut, EventsAreCarriedOut, StatementsHappen, EventsFit, Completes, OneScheduleCompletes}
use Rattle.schedule.proofs.EventLists.{sums_same}
use Rattle.schedule.proofs.EventsFit.{every_nest_fits}
use Rattle.schedule.proofs.NestRuns.{Between, Leads, nest_leads}

-- the memory that the owners have together
abbrev pub memory_of : {V : Type 0} → ℕ → Deals → State V (Own V) → Memory V
memory_of q deals s = record {
  elements = λ e. (s.own (owner_in q deals e)).elements e;
  held = λ e. (s.own (owner_in q deals e)).held e;
  row = s.row;
}

-- a board with nothing left to do has ended
pub idle_ended : {V : Type 0} (k : Setting V) (boards depth : ℕ) (s : State V (Own V)) (p : ℕ) → p < boards → (s.own p).todo ≡ [] → HasEnded (request (boards_that k boards) depth) s p
unfolding next_of
idle_ended k boards depth s p h none = ap (λ r. r.0) (ended (boards_that k boards) depth s p h (ap (next_of k (s.own p)) none))

-- a sum over boards, each of which began at nothing
sums_from_nothing : (after before by to : ℕ → ℕ) (boards : ℕ) → ((p : ℕ) → p < boards → after p ≡ before p + by p) → ((p : ℕ) → p < boards → before p ≡ 0)
    → ((p : ℕ) → p < boards → by p ≡ to p) → sum_by after (range_with_len 0 boards) ≡ sum_by to (range_with_len 0 boards)
sums_from_nothing after before by to boards grown none same =
    sums_same after to (range_with_len 0 boards) (λ p m. let h : p < boards = omega (arith, in_counting p 0 boards m) in omega (arith, grown p h, none p h, same p h))

module _ (V : Type 0) (n : Sheet) (deals : Deals) (plus times : V → V → V) (coefficients : List V) (outside : V) (arrays : List V) (s : State V (Own V)) (loaded : Loaded n deals outside arrays s) where
  -- what a loaded state is like, with any values held
  loaded_between : (held : List V) → length arrays ≡ total n.arrays → length held ≡ total n.arrays
      → Between (setting_of plus times coefficients n.arrays outside) (memory_of n.grid.rows deals s) (buffers_of arrays held)
  loaded_between held long held-long = record { without_letters = loaded.empty; elements = loaded.have; elements_length = long; held_length = held-long }

  -- what was carried out from it, completes it
  completed : (fits : EventsFit n deals) (list : List ℕ)
      → CarriedOut (setting_of plus times coefficients n.arrays outside) (boards_of n.grid) (depth_of n deals) (There n.arrays) (owner_in n.grid.rows deals) s list
      (after_events (setting_of plus times coefficients n.arrays outside) (memory_of n.grid.rows deals s) (nest_events n deals))
      → ((held : List V) → length held ≡ total n.arrays
      → Leads (setting_of plus times coefficients n.arrays outside) (depth_of n deals) (memory_of n.grid.rows deals s) (nest_events n deals)
      (sequential_of plus times coefficients outside n (buffers_of arrays held)))
      → Completes n deals plus times coefficients outside arrays s list
  completed fits list done leads =
      let k : Setting V = setting_of plus times coefficients n.arrays outside in
      let boards : ℕ = boards_of n.grid in
      let end : State V (Own V) = state_after (request (boards_that k boards) (depth_of n deals)) s list in
      record {
        complete = record { runs = done.runs; ends_all = λ p h. idle_ended k boards (depth_of n deals) end p h (done.todo p h) };
        steps = done.long ∙ sums_same (λ p. length (s.own p).todo) (λ p. length (nest_deeds n deals p)) (range_with_len 0 boards) (λ p m. ap length (loaded.todo p (omega (arith, in_counting p 0 boards m)))) ∙ fits.steps;
        have = λ held long e there. done.tied.elements e there ∙ (leads held long).between.elements e there;
        ran = sums_from_nothing (λ p. (end.own p).ran) (λ p. (s.own p).ran) (λ p. length (s.own p).todo) (λ p. length (nest_deeds n deals p)) boards done.ran loaded.ran (λ p h. ap length (loaded.todo p h)) ∙ fits.steps;
        put = sums_from_nothing (λ p. (end.own p).put) (λ p. (s.own p).put) (λ p. sum_by puts_in (s.own p).todo) (λ p. sum_by puts_in (nest_deeds n deals p)) boards done.put loaded.put (λ p h. ap (sum_by puts_in) (loaded.todo p h)) ∙ fits.puts;
        taken = sums_from_nothing (λ p. (end.own p).taken) (λ p. (s.own p).taken) (λ p. sum_by takes_in (s.own p).todo) (λ p. sum_by takes_in (nest_deeds n deals p)) boards done.taken loaded.taken (λ p h. ap (sum_by takes_in) (loaded.todo p h)) ∙ fits.takes;
      }

pub one_schedule : (V : Type 0) → EventsAreCarriedOut V → StatementsHappen V → OneScheduleCompletes V
one_schedule V carried happen n deals kept fit sound plus times coefficients outside arrays long s loaded =
    let k : Setting V = setting_of plus times coefficients n.arrays outside in
    let q : ℕ = n.grid.rows in
    let m : Memory V = memory_of q deals s in
    let fits : EventsFit n deals = every_nest_fits n deals kept fit sound in
    let leads : (held : List V) → length held ≡ total n.arrays → Leads k (depth_of n deals) m (nest_events n deals) (sequential_of plus times coefficients outside n (buffers_of arrays held)) = λ held held-long.
    nest_leads happen n deals kept fit sound plus times coefficients outside m (buffers_of arrays held) (loaded_between V n deals plus times coefficients outside arrays s loaded held long held-long) in
    let tied : Tied (There n.arrays) (owner_in q deals) s m = record { elements = λ e there. refl; held = λ e there. refl; rows = refl } in
    let done = carried k (boards_of n.grid) (depth_of n deals) (owner_in q deals) s m (nest_events n deals) tied (leads arrays long).can fits.home (λ p h. fits.shares p h ∙ ap working (sym (loaded.todo p h))) in
    (done.0, completed V n deals plus times coefficients outside arrays s loaded fits done.0 done.1 leads)
