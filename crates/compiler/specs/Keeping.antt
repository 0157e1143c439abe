-- What every program keeps: as many boards as the grid has, and orders for statements that are there. Assumes nothing.
use Rattle.std.specs.Prelude.{ℕ, ◌+◌, Bool, true, ◌&&◌, List, [], length, ◌==◌, nat_le, nat_lt, slice_index_or, Option, Some, None}
use Rattle.nest.specs.Terms.{Said, Sheet}
use Rattle.nest.specs.Sound.{each, subscript_kept, read_kept}
use Rattle.nest.specs.declared.terms.Array.{Array}
use Rattle.nest.specs.declared.terms.Mode.TheVariants.{All}
use Rattle.nest.specs.declared.terms.Offset.TheVariants.{Plus}
use Rattle.nest.specs.declared.terms.Range.{Range}
use Rattle.nest.specs.declared.terms.Variable.TheVariants.{I, J}
use Rattle.compiler.specs.declared.span.Owning.{Owning}
use Rattle.compiler.specs.declared.order.Order.{Order}
use Rattle.compiler.specs.declared.order.Task.{Task}
use Rattle.compiler.specs.declared.order.Task.TheVariants.{Ship, Base, Add, Store}
use Rattle.compiler.specs.declared.order.Work.{Work}
use Rattle.compiler.specs.declared.order.Work.TheVariants.{One, Walk}
use Rattle.compiler.specs.declared.span.Span.{Span}
use Rattle.compiler.specs.Compiled.{OneBoard}
use Rattle.compiler.specs.Totals.{boards_of}

-- a statement that is not there has no iteration
abbrev pub no_statement : Said
no_statement = record {
  mode = All;
  i = record { low = 1; high = 0 };
  j = record { low = 1; high = 0 };
  put = record {
    array = 0;
    row = record { variable = I; factor = 1; offset = Plus 0 };
    column = record { variable = J; factor = 1; offset = Plus 0 };
  };
  base = 0;
  reads = [];
}

-- statement k, counted from 0
abbrev pub statement_at : List Said → ℕ → Said
statement_at statements k = slice_index_or statements k no_statement

-- a plain span stays inside its loop range; an owned one goes by an array that is there and a subscript that moves
abbrev pub owning_kept : List Array → Range → ℕ → ℕ → Option Owning → Bool
owning_kept arrays r first end None = nat_le r.low first && nat_le end (r.high + 1)
owning_kept arrays r first end (Some o) = nat_lt o.array (length arrays) && subscript_kept 1 o.subscript

abbrev pub span_kept : List Array → Range → Span → Bool
span_kept arrays r s = owning_kept arrays r s.first s.end s.owning

-- a ship or an add is of a read that stays inside its array
abbrev pub task_kept : List Array → Said → Task → Bool
task_kept arrays s (Ship r) = read_kept arrays s.i s.j r
task_kept arrays s Base = true
task_kept arrays s (Add r) = read_kept arrays s.i s.j r
task_kept arrays s Store = true

abbrev pub work_kept : List Array → Said → Work → Bool
work_kept arrays s (One t) = task_kept arrays s t
work_kept arrays s Walk = true

abbrev pub order_kept : List Array → List Said → Order → Bool
order_kept arrays statements o =
    nat_lt o.statement (length statements) && work_kept arrays (statement_at statements o.statement) o.work
    && span_kept arrays (statement_at statements o.statement).i o.i && span_kept arrays (statement_at statements o.statement).j o.j

abbrev pub board_kept : Sheet → OneBoard → Bool
board_kept n b = each (order_kept n.arrays n.statements) b.orders

abbrev pub program_kept : Sheet → List OneBoard → Bool
program_kept n boards = length boards == boards_of n.grid && each (board_kept n) boards
