-- What a board does in a step. Assumes nothing.
use Rattle.std.specs.Prelude.{ℕ, Bool, true, false, cond, List, [], ◌∷◌, map, Some, None, filter, Option}
use Rattle.std.specs.List.{flat_map}
use Rattle.nest.specs.Terms.{Said}
use Rattle.sections.specs.Order.{Element}
use Rattle.sequential.specs.declared.iteration.Iteration.{Iteration}
use Rattle.compiler.specs.declared.order.Order.{Order}
use Rattle.compiler.specs.declared.order.Task.{Task}
use Rattle.compiler.specs.declared.order.Task.TheVariants.{Ship, Base, Add, Store}
use Rattle.compiler.specs.declared.order.Work.{Work}
use Rattle.compiler.specs.declared.order.Work.TheVariants.{One, Walk}
use Rattle.compiler.specs.Spans.{Seat}
use Rattle.compiler.specs.Orders.{tasks_of, orders_for, numbered}
use Rattle.compiler.specs.Cells.{cells_of, element_at, board_at, owns_at}

-- a step of a board. Coefficients go by their numbers; an element is an array, a row and a column
pub data Deed : Type 0 where
  -- the cell is idle, or the board has no part in it
  rests : Deed
  -- puts an element to a board
  ships : ℕ → Element → Deed
  -- holds a coefficient for a target
  holds : ℕ → Element → Deed
  -- adds coefficient times an element of its own to what is held for a target
  adds_own : ℕ → Element → Element → Deed
  -- adds coefficient times a letter taken from a board to what is held for a target
  adds_taken : ℕ → ℕ → Element → Deed
  -- stores what is held for a target
  stores : Element → Deed

-- whether a step does anything, and the steps of a list that do
abbrev pub works : Deed → Bool
works rests = false
works (ships q e) = true
works (holds c e) = true
works (adds_own c e target) = true
works (adds_taken c p target) = true
works (stores e) = true

abbrev pub working : List Deed → List Deed
working deeds = filter works deeds

-- what a board does for a task in an iteration
abbrev pub deed_of : Seat → Said → Task → Iteration → Deed
deed_of b s (Ship r) e = cond (owns_at b r.source e) (cond (owns_at b s.put e) rests (ships (board_at b s.put e) (element_at r.source e))) rests
deed_of b s Base e = cond (owns_at b s.put e) (holds s.base (element_at s.put e)) rests
deed_of b s (Add r) e =
    cond (owns_at b s.put e)
    (cond (owns_at b r.source e) (adds_own r.coefficient (element_at r.source e) (element_at s.put e)) (adds_taken r.coefficient (board_at b r.source e) (element_at s.put e)))
    rests
deed_of b s Store e = cond (owns_at b s.put e) (stores (element_at s.put e)) rests

-- what it does in a cell, which may be idle
abbrev pub deed_in : Seat → Said → Option Iteration → Task → Deed
deed_in b s None t = rests
deed_in b s (Some e) t = deed_of b s t e

-- the tasks of a cell, one step each
abbrev pub tasks_in : Said → Work → List Task
tasks_in s (One t) = t ∷ []
tasks_in s Walk = tasks_of s

-- the steps of an order, cell by cell
abbrev pub order_deeds : Seat → Said → Order → List Deed
order_deeds b s o = flat_map (λ cell. map (deed_in b s cell) (tasks_in s o.work)) (cells_of b s o)

-- the steps of a board in one run of a statement, and in one run of all statements
abbrev pub statement_deeds : Seat → ℕ × Said → List Deed
statement_deeds b ks = flat_map (order_deeds b ks.1) (orders_for b ks)

abbrev pub sweep_deeds : Seat → List Said → List Deed
sweep_deeds b statements = flat_map (statement_deeds b) (numbered 0 statements)
