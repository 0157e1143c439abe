-- The orders of a board. Assumes nothing.
use Rattle.std.specs.Prelude.{ℕ, ◌+◌, List, [], ◌∷◌, ◌++◌, map, Option, Some, None}
use Rattle.std.specs.List.{flat_map}
use Rattle.nest.specs.Terms.{Said}
use Rattle.nest.specs.declared.terms.Mode.{Mode}
use Rattle.nest.specs.declared.terms.Mode.TheVariants.{All, Seq}
use Rattle.nest.specs.declared.terms.Variable.TheVariants.{I, J}
use Rattle.dealing.specs.declared.dimension.Dimension.TheVariants.{Rows, Columns}
use Rattle.compiler.specs.declared.span.Owning.{Owning}
use Rattle.compiler.specs.declared.order.Order.{Order}
use Rattle.compiler.specs.declared.order.Task.{Task}
use Rattle.compiler.specs.declared.order.Task.TheVariants.{Ship, Base, Add, Store}
use Rattle.compiler.specs.declared.order.Work.TheVariants.{One, Walk}
use Rattle.compiler.specs.Spans.{Seat, span_of, owning_by, ship_owning}

-- each of a list with its number, counted from n
abbrev pub numbered : {X : Type 0} → ℕ → List X → List (ℕ × X)
numbered n [] = []
numbered n (x ∷ xs) = (n, x) ∷ numbered (n + 1) xs

-- the tasks of a statement in the order in which they are done: a ship for each read, the base, an add for each read, the store
abbrev pub tasks_of : Said → List Task
tasks_of s = map Ship s.reads ++ (Base ∷ (map Add s.reads ++ (Store ∷ [])))

-- what owns the i-span of a task, and its j-span: a ship goes by its read, the others by the target's rows and columns
abbrev pub i_owning : Said → Task → Option Owning
i_owning s (Ship r) = ship_owning I r.source
i_owning s Base = Some (owning_by Rows s.put)
i_owning s (Add r) = Some (owning_by Rows s.put)
i_owning s Store = Some (owning_by Rows s.put)

abbrev pub j_owning : Said → Task → Option Owning
j_owning s (Ship r) = ship_owning J r.source
j_owning s Base = Some (owning_by Columns s.put)
j_owning s (Add r) = Some (owning_by Columns s.put)
j_owning s Store = Some (owning_by Columns s.put)

-- the order of a board for one task of statement k
abbrev pub task_order : Seat → ℕ → Said → Task → Order
task_order b k s t = record { statement = k; work = One t; i = span_of b (i_owning s t) s.i; j = span_of b (j_owning s t) s.j }

-- the one order of a statement whose tasks are done cell by cell: every board goes through every iteration
abbrev pub walk_order : Seat → ℕ → Said → Order
walk_order b k s = record { statement = k; work = Walk; i = span_of b None s.i; j = span_of b None s.j }

-- the orders of a board for a statement with its number: an order for each task, or one walk
abbrev pub orders_by : Mode → Seat → ℕ → Said → List Order
orders_by All b k s = map (task_order b k s) (tasks_of s)
orders_by Seq b k s = walk_order b k s ∷ []

abbrev pub orders_for : Seat → ℕ × Said → List Order
orders_for b ks = orders_by ks.1.mode b ks.0 ks.1

-- the orders of a board for all statements, in succession
abbrev pub board_orders : Seat → List Said → List Order
board_orders b statements = flat_map (orders_for b) (numbered 0 statements)
