-- One schedule completes a nest, and ends in its sequential run. Assumes nothing.
use Rattle.std.specs.Prelude.{◌≡◌, ℕ, ◌+◌, ◌<◌, true, List, [], length, sum_by}
use Rattle.std.specs.List.{range_with_len}
use Rattle.nest.specs.Terms.{Said, Sheet}
use Rattle.nest.specs.Sound.{nest_kept}
use Rattle.layout.specs.Places.{total}
use Rattle.sections.specs.Order.{Element}
use Rattle.sections.specs.Sections.{Deals, Fits}
use Rattle.sequential.specs.Laws.{In}
use Rattle.sequential.specs.Run.{Setting, setting_of, Buffers, buffers_of, after_statement, sequential_of}
use Rattle.network.specs.Network.{State}
use Rattle.network.specs.Request.{request}
use Rattle.network.specs.Runs.{AllRan, state_after, Complete}
use Rattle.compiler.specs.Deeds.{Deed, ships, adds_taken, working}
use Rattle.compiler.specs.Laws.{AllSound}
use Rattle.compiler.specs.Totals.{boards_of, steps_of, letters_of, depth_of, statement_depth}
use Rattle.schedule.specs.Boards.{Own, boards_that}
use Rattle.schedule.specs.Memory.{Event, Memory, after_events, AllCan, AtHome, share_of, NoLetters}
use Rattle.schedule.specs.Events.{owner_in, statement_events, nest_events, nest_deeds}
use Rattle.schedule.specs.Start.{There, Agrees, OwnersHave, Tied, Loaded}

-- how many letters some steps put, and how many they take
abbrev pub puts_in : Deed → ℕ
puts_in (ships q e) = 1
puts_in _ = 0

abbrev pub takes_in : Deed → ℕ
takes_in (adds_taken c q e) = 1
takes_in _ = 0

-- boards were asked by a list, each request was answered ran, and they ended: each ran all its steps, and the values at
-- the owners are those of one memory
pub record CarriedOut {V : Type 0} (k : Setting V) (boards depth : ℕ) (Here : Element → Type 0) (owner : Element → ℕ)
    (s : State V (Own V)) (list : List ℕ) (end : Memory V) : Type 0 where
  pub runs : AllRan (request (boards_that k boards) depth) s list
  pub tied : Tied Here owner (state_after (request (boards_that k boards) depth) s list) end
  pub todo : (p : ℕ) → p < boards → ((state_after (request (boards_that k boards) depth) s list).own p).todo ≡ []
  pub ran : (p : ℕ) → p < boards → ((state_after (request (boards_that k boards) depth) s list).own p).ran ≡ (s.own p).ran + length (s.own p).todo
  pub put : (p : ℕ) → p < boards → ((state_after (request (boards_that k boards) depth) s list).own p).put ≡ (s.own p).put + sum_by puts_in (s.own p).todo
  pub taken : (p : ℕ) → p < boards → ((state_after (request (boards_that k boards) depth) s list).own p).taken ≡ (s.own p).taken + sum_by takes_in (s.own p).todo
  pub long : length list ≡ sum_by (λ p. length (s.own p).todo) (range_with_len 0 boards)

-- events that can happen on one memory can be carried out by the boards, if each board's share of them is what it has to do
-- (steps that do nothing aside), and each touches only what belongs to its board
abbrev pub EventsAreCarriedOut : (V : Type 0) → Type 0
EventsAreCarriedOut V =
    (k : Setting V) (boards depth : ℕ) (owner : Element → ℕ) (s : State V (Own V)) (m : Memory V) (events : List Event)
    → Tied (There k.arrays) owner s m → AllCan k depth m events
    → ((ev : Event) → In ev events → (ev.0 < boards) × AtHome (There k.arrays) owner ev.0 ev.1)
    → ((p : ℕ) → p < boards → share_of p events ≡ working (s.own p).todo)
    → (list : List ℕ) × CarriedOut k boards depth (There k.arrays) owner s list (after_events k m events)

-- the events of one run of a statement on one memory: they can happen, leave no letter, and leave the elements that the
-- statement leaves in sequence, whatever was held
pub record StatementHappens {V : Type 0} (k : Setting V) (g : ℕ) (deals : Deals) (s : Said) (depth : ℕ) (m : Memory V) (b : Buffers V) : Type 0 where
  pub can : AllCan k depth m (statement_events g deals s)
  pub without_letters : NoLetters (after_events k m (statement_events g deals s))
  pub elements : Agrees k.arrays k.outside (after_events k m (statement_events g deals s)).elements (after_statement k b s).elements

abbrev pub StatementsHappen : (V : Type 0) → Type 0
StatementsHappen V =
    (n : Sheet) (deals : Deals) → nest_kept n.grid n.arrays n.sweeps n.statements ≡ true → Fits n.grid n.arrays deals → AllSound deals
    → (plus times : V → V → V) (coefficients : List V) (outside : V) (s : Said) → In s n.statements → (m : Memory V) (b : Buffers V)
    → NoLetters m → Agrees n.arrays outside m.elements b.elements → length b.elements ≡ total n.arrays → length b.held ≡ total n.arrays
    → StatementHappens (setting_of plus times coefficients n.arrays outside) n.grid.rows deals s (statement_depth n.grid deals s) m b

-- the share of each board in the events of a nest is what it has to do, steps that do nothing aside; events touch only
-- what belongs to their boards; and they put and take the letters that are counted
pub record EventsFit (n : Sheet) (deals : Deals) : Type 0 where
  pub shares : (p : ℕ) → p < boards_of n.grid → share_of p (nest_events n deals) ≡ working (nest_deeds n deals p)
  pub home : (ev : Event) → In ev (nest_events n deals)
      → (ev.0 < boards_of n.grid) × AtHome (There n.arrays) (owner_in n.grid.rows deals) ev.0 ev.1
  pub steps : sum_by (λ p. length (nest_deeds n deals p)) (range_with_len 0 (boards_of n.grid)) ≡ steps_of n deals
  pub puts : sum_by (λ p. sum_by puts_in (nest_deeds n deals p)) (range_with_len 0 (boards_of n.grid)) ≡ letters_of n deals
  pub takes : sum_by (λ p. sum_by takes_in (nest_deeds n deals p)) (range_with_len 0 (boards_of n.grid)) ≡ letters_of n deals

abbrev pub EveryNestFits : Type 0
EveryNestFits =
    (n : Sheet) (deals : Deals) → nest_kept n.grid n.arrays n.sweeps n.statements ≡ true → Fits n.grid n.arrays deals → AllSound deals
    → EventsFit n deals

-- a list completes the boards of a nest from a loaded state: as long as the compiled steps; at its end as many letters were put
-- and taken as compiled, none waits, and the owners have the elements of the sequential run
pub record Completes {V : Type 0} (n : Sheet) (deals : Deals) (plus times : V → V → V) (coefficients : List V) (outside : V) (arrays : List V)
    (s : State V (Own V)) (list : List ℕ) : Type 0 where
  pub complete : Complete (request (boards_that (setting_of plus times coefficients n.arrays outside) (boards_of n.grid)) (depth_of n deals)) (boards_of n.grid) s list
  pub steps : length list ≡ steps_of n deals
  pub have : (held : List V) → length held ≡ total n.arrays
      → OwnersHave n deals outside (state_after (request (boards_that (setting_of plus times coefficients n.arrays outside) (boards_of n.grid)) (depth_of n deals)) s list).own
      (sequential_of plus times coefficients outside n (buffers_of arrays held)).elements
  pub ran : sum_by (λ p. ((state_after (request (boards_that (setting_of plus times coefficients n.arrays outside) (boards_of n.grid)) (depth_of n deals)) s list).own p).ran) (range_with_len 0 (boards_of n.grid)) ≡ steps_of n deals
  pub put : sum_by (λ p. ((state_after (request (boards_that (setting_of plus times coefficients n.arrays outside) (boards_of n.grid)) (depth_of n deals)) s list).own p).put) (range_with_len 0 (boards_of n.grid)) ≡ letters_of n deals
  pub taken : sum_by (λ p. ((state_after (request (boards_that (setting_of plus times coefficients n.arrays outside) (boards_of n.grid)) (depth_of n deals)) s list).own p).taken) (range_with_len 0 (boards_of n.grid)) ≡ letters_of n deals

-- every nest that keeps its ranges, dealt out by any maps that fit, has such a list
abbrev pub OneScheduleCompletes : (V : Type 0) → Type 0
OneScheduleCompletes V =
    (n : Sheet) (deals : Deals) → nest_kept n.grid n.arrays n.sweeps n.statements ≡ true → Fits n.grid n.arrays deals → AllSound deals
    → (plus times : V → V → V) (coefficients : List V) (outside : V) (arrays : List V) → length arrays ≡ total n.arrays
    → (s : State V (Own V)) → Loaded n deals outside arrays s
    → (list : List ℕ) × Completes n deals plus times coefficients outside arrays s list
