-- The steps of orders, from the ends of their spans. Only the private code goes by these. Assumes nothing.
use Rattle.std.specs.Prelude.{ℕ, ◌+◌, ◌-◌, ◌*◌, ◌<◌, ◌≤◌, List, map, length, sum_by, slice_index}
use Rattle.std.specs.List.{AllByRecursion}
use Rattle.nest.specs.Terms.{Said}
use Rattle.compiler.specs.declared.order.Order.{Order}
use Rattle.compiler.specs.declared.order.Work.{Work}
use Rattle.compiler.specs.declared.order.Work.TheVariants.{One, Walk}
use Rattle.compiler.specs.declared.span.Span.{Span}

-- how many numbers a span has
abbrev pub width_of : Span → ℕ
width_of s = s.end - s.first

-- how many cells an order has
abbrev pub cell_count : Order → ℕ
cell_count o = width_of o.i * width_of o.j

-- how many reads each statement has
abbrev pub read_counts : List Said → List ℕ
read_counts ss = map (λ s. length s.reads) ss

-- how many tasks are done in a cell: one, or all of the statement
abbrev pub task_count : List ℕ → ℕ → Work → ℕ
task_count reads k (One t) = 1
task_count reads k Walk = 2 * slice_index reads k + 2

-- how many steps an order takes, and some orders
abbrev pub step_count : List Said → Order → ℕ
step_count ss o = cell_count o * task_count (read_counts ss) o.statement o.work

abbrev pub step_counts : List Said → List Order → ℕ
step_counts ss os = sum_by (step_count ss) os

-- an order for one of so many statements, whose spans end early
abbrev pub Short : ℕ → Order → Type 0
Short statements o = (o.statement < statements) × (o.i.end ≤ 33) × (o.j.end ≤ 33)

-- statements with few reads each
abbrev pub FewReads : List Said → Type 0
FewReads ss = AllByRecursion (λ s. length s.reads ≤ 4) ss

-- few orders, all of them short
abbrev pub FewOrders : List Said → List Order → Type 0
FewOrders ss os = (length os ≤ 80) × AllByRecursion (Short (length ss)) os
