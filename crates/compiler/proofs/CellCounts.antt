-- How many steps orders take. Assumes nothing.
use Rattle.std.proofs.Common.{◌≡◌, ℕ, suc, ◌+◌, ◌*◌, List, [], ◌∷◌, map, length, get_or, sym, refl, ap, ◌∙◌, ap₂, arith}
use Rattle.std.specs.List.{AllByRecursion}
use Rattle.std.proofs.ByRecursion.{All-map, All-weaker}
use Rattle.std.proofs.lemmas.List.{length-map, length-append}
use Rattle.nest.specs.Terms.{Said}
use Rattle.nest.specs.declared.terms.Mode.{Mode}
use Rattle.nest.specs.declared.terms.Mode.TheVariants.{All as AllAtOnce, Seq}
use Rattle.compiler.specs.declared.order.Order.{Order}
use Rattle.compiler.specs.declared.order.Work.{Work}
use Rattle.compiler.specs.declared.order.Work.TheVariants.{One, Walk}
use Rattle.compiler.specs.Spans.{Seat}
use Rattle.compiler.specs.Orders.{numbered, tasks_of, task_order, orders_by, orders_for, board_orders}
use Rattle.compiler.specs.Deeds.{tasks_in}
use Rattle.compiler.specs.Totals.{order_steps, statement_steps, sweep_steps}
use Rattle.compiler.specs.StepCounts.{read_counts, task_count, step_count, step_counts}
use Rattle.compiler.proofs.CellParts.{length_cells}
use Rattle.compiler.proofs.JoinedSums.{sum_by_joined}
use Rattle.compiler.proofs.ListSums.{sums_like}

-- the tasks of a statement: two for each read, and two more
pub length_tasks : (s : Said) → length (tasks_of s) ≡ 2 * length s.reads + 2
length_tasks s = simp (length-append, length-map) (omega arith)

-- what holds of everything holds of each of a list
pub every : {X : Type 0} {P : X → Type 0} → ((x : X) → P x) → (xs : List X) → AllByRecursion P xs
every h [] = tt
every h (x ∷ xs) = (h x, every h xs)

-- the number at the place of each of a numbered list
numbered_at : {X : Type 0} (f : X → ℕ) (ns : List ℕ) (a : ℕ) (xs : List X) → ((i : ℕ) → get_or ns (a + i) 0 ≡ get_or (map f xs) i 0) → AllByRecursion (λ kx. get_or ns kx.0 0 ≡ f kx.1) (numbered a xs)
numbered_at f ns a [] h = tt
numbered_at f ns a (x ∷ xs) h = (
  let e : a ≡ a + 0 = omega arith in ap (λ n. get_or ns n 0) e ∙ h 0,
  numbered_at f ns (a + 1) xs (λ i. let e : a + 1 + i ≡ a + suc i = omega arith in ap (λ n. get_or ns n 0) e ∙ h (suc i)),
)

-- all orders of a statement bear its number
numbers_of : (m : Mode) (b : Seat) (k : ℕ) (s : Said) → AllByRecursion (λ o. o.statement ≡ k) (orders_by m b k s)
numbers_of AllAtOnce b k s = All-map (λ o. o.statement ≡ k) (task_order b k s) (tasks_of s) (every (λ t. refl) (tasks_of s))
numbers_of Seq b k s = (refl, tt)

module _ (ss : List Said) (b : Seat) where
  module _ (k : ℕ) (s : Said) (reads : get_or (read_counts ss) k 0 ≡ length s.reads) where
    tasks_counted : (w : Work) → task_count (read_counts ss) k w ≡ length (tasks_in s w)
    tasks_counted (One t) = refl
    tasks_counted Walk = ap (λ n. 2 * n + 2) reads ∙ sym (length_tasks s)

    -- an order for the statement takes as many steps as its spans tell
    steps_counted : (o : Order) → o.statement ≡ k → step_count ss o ≡ order_steps b s o
    steps_counted o e =
        ap₂ (λ m n. m * n) (sym (length_cells b s o)) (ap (λ n. task_count (read_counts ss) n o.work) e ∙ tasks_counted o.work)

    statement_counted : step_counts ss (orders_for b (k, s)) ≡ statement_steps b (k, s)
    statement_counted = sums_like (step_count ss) (order_steps b s) (orders_for b (k, s)) (All-weaker (λ o. o.statement ≡ k) _ steps_counted (orders_for b (k, s)) (numbers_of s.mode b k s))

  -- the steps of a board in one run of all statements
  pub sweep_counted : step_counts ss (board_orders b ss) ≡ sweep_steps b ss
  sweep_counted =
      sum_by_joined (orders_for b) (step_count ss) (numbered 0 ss)
      ∙ sums_like _ (statement_steps b) (numbered 0 ss)
      (All-weaker (λ ks. get_or (read_counts ss) ks.0 0 ≡ length ks.1.reads) _ (λ ks e. statement_counted ks.0 ks.1 e) (numbered 0 ss)
      (numbered_at (λ s. length s.reads) (read_counts ss) 0 ss (λ i. let e : 0 + i ≡ i = omega arith in ap (λ n. get_or (read_counts ss) n 0) e)))
