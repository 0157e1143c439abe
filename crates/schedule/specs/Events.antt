-- One order of all steps that do something: iteration by iteration, with no loop over boards. Assumes nothing.
use Rattle.std.specs.Prelude.{ℕ, zero, suc, cond, List, [], ◌∷◌, ◌++◌}
use Rattle.std.specs.List.{flat_map}
use Rattle.nest.specs.Terms.{Said, Sheet}
use Rattle.nest.specs.declared.terms.Mode.{Mode}
use Rattle.nest.specs.declared.terms.Mode.TheVariants.{All, Seq}
use Rattle.sections.specs.Order.{Element}
use Rattle.sections.specs.Sections.{Deals, board_of}
use Rattle.sequential.specs.Iterations.{iterations}
use Rattle.sequential.specs.declared.iteration.Iteration.{Iteration}
use Rattle.compiler.specs.Spans.{seat}
use Rattle.compiler.specs.Orders.{tasks_of}
use Rattle.compiler.specs.Cells.{board_at}
use Rattle.compiler.specs.Deeds.{Deed, deed_of, works, sweep_deeds}
use Rattle.compiler.specs.declared.order.Task.{Task}
use Rattle.compiler.specs.declared.order.Task.TheVariants.{Ship, Base, Add, Store}
use Rattle.schedule.specs.Memory.{Event}

-- the board of an element, on a grid of q rows
abbrev pub owner_in : ℕ → Deals → Element → ℕ
owner_in q deals e = board_of q deals e.0 e.1 e.2

-- the board that does a task in an iteration: the owner of the element ships it, the target's owner does all else
abbrev pub doer : ℕ → Deals → Said → Task → Iteration → ℕ
doer q deals s (Ship r) e = board_at (seat q deals 0) r.source e
doer q deals s _ e = board_at (seat q deals 0) s.put e

-- a step as an event, unless it does nothing
abbrev pub event_for : ℕ → Deed → List Event
event_for p d = cond (works d) ((p, d) ∷ []) []

-- the event of a task in an iteration; a ship within one board is none
abbrev pub event_in : ℕ → Deals → Said → Task → Iteration → List Event
event_in q deals s t e = event_for (doer q deals s t e) (deed_of (seat q deals (doer q deals s t e)) s t e)

-- the tasks of one iteration in an order in which each letter is taken before the next is put
abbrev pub pass_tasks : Said → List Task
pass_tasks s = Base ∷ (flat_map (λ r. Ship r ∷ (Add r ∷ [])) s.reads ++ (Store ∷ []))

-- the events of one run of a statement: task by task over all iterations, or iteration by iteration
abbrev pub events_by : Mode → ℕ → Deals → Said → List Event
events_by All q deals s = flat_map (λ t. flat_map (event_in q deals s t) (iterations s.i s.j)) (tasks_of s)
events_by Seq q deals s = flat_map (λ e. flat_map (λ t. event_in q deals s t e) (pass_tasks s)) (iterations s.i s.j)

abbrev pub statement_events : ℕ → Deals → Said → List Event
statement_events q deals s = events_by s.mode q deals s

-- a list so many times over
abbrev pub again : {X : Type 0} → ℕ → List X → List X
again zero xs = []
again (suc n) xs = again n xs ++ xs

-- the events of a sweep, and of the whole nest
abbrev pub sweep_events : ℕ → Deals → List Said → List Event
sweep_events q deals statements = flat_map (statement_events q deals) statements

abbrev pub nest_events : Sheet → Deals → List Event
nest_events n deals = again n.sweeps (sweep_events n.grid.rows deals n.statements)

-- the steps of board p in the whole nest
abbrev pub nest_deeds : Sheet → Deals → ℕ → List Deed
nest_deeds n deals p = again n.sweeps (sweep_deeds (seat n.grid.rows deals p) n.statements)
