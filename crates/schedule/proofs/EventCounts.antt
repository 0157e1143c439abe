-- How many steps the boards have to run in a nest, and how many letters they put and take. Assumes nothing.
use Rattle.std.proofs.Common.{◌≡◌, ℕ, zero, suc, ◌+◌, ◌*◌, ◌<◌, ◌≤◌, Bool, true, false, cond, eqb, List, [], ◌∷◌, map, length, sum_by, filter, Option, sym, refl, ap, ◌∙◌, ⊎_elim, suc-mul, zero-mul, arith}
use Rattle.std.specs.List.{range_with_len, flat_map, AllByRecursion}
use Rattle.std.proofs.lemmas.List.{length-append, length-map}
use Rattle.std.proofs.lemmas.List.Concat.{length-flat_map}
use Rattle.std.proofs.lemmas.List.Sums.{sum_by-cons, sum_by-append}
use Rattle.std.proofs.lemmas.Bool.{cases_Bool, cond-true, cond-false, eqb-true, eqb-false, ne_eqb}
use Rattle.nest.specs.Terms.{Said, Sheet}
use Rattle.sections.specs.Sections.{Deals}
use Rattle.sequential.specs.declared.iteration.Iteration.{Iteration}
use Rattle.compiler.specs.Spans.{Seat, seat}
use Rattle.compiler.specs.Orders.{orders_for, numbered}
use Rattle.compiler.specs.Cells.{cells_of}
use Rattle.compiler.specs.Deeds.{Deed, rests, works, working, deed_in, tasks_in, order_deeds, statement_deeds, sweep_deeds}
use Rattle.compiler.specs.Totals.{boards_of, order_steps, statement_steps, board_steps, steps_of}
use Rattle.compiler.specs.declared.order.Task.{Task}
use Rattle.compiler.proofs.ListSums.{sums_like, sums_alike, sums_swap}
use Rattle.schedule.specs.Memory.{Event, share_of}
use Rattle.schedule.specs.Events.{nest_deeds}
use Rattle.schedule.proofs.EventLists.{length_again}

-- an order has one step for each task of each cell
order_length : (b : Seat) (s : Said) (tasks : List Task) (cells : List (Option Iteration)) → length (flat_map (λ cell. map (deed_in b s cell) tasks) cells) ≡ length cells * length tasks
order_length b s tasks [] = sym (zero-mul (length tasks))
order_length b s tasks (c ∷ cells) =
    omega (arith, length-append (map (deed_in b s c) tasks) (flat_map (λ cell. map (deed_in b s cell) tasks) cells), length-map tasks (deed_in b s c), order_length b s tasks cells, suc-mul (length cells) (length tasks))

-- the steps that a board has to run are those that are compiled
board_length : (n : Sheet) (deals : Deals) (p : ℕ) → length (nest_deeds n deals p) ≡ board_steps n deals p
board_length n deals p =
    let b : Seat = seat n.grid.rows deals p in
    let statement : (ks : ℕ × Said) → length (statement_deeds b ks) ≡ statement_steps b ks = λ ks.
    length-flat_map (order_deeds b ks.1) (orders_for b ks)
    ∙ sums_alike (λ o. length (order_deeds b ks.1 o)) (order_steps b ks.1) (orders_for b ks) (λ o. order_length b ks.1 (tasks_in ks.1 o.work) (cells_of b ks.1 o)) in
    length_again n.sweeps (sweep_deeds b n.statements)
    ∙ ap (λ x. n.sweeps * x) (length-flat_map (statement_deeds b) (numbered 0 n.statements) ∙ sums_alike (λ ks. length (statement_deeds b ks)) (statement_steps b) (numbered 0 n.statements) statement)

pub steps_counted : (n : Sheet) (deals : Deals) → sum_by (λ p. length (nest_deeds n deals p)) (range_with_len 0 (boards_of n.grid)) ≡ steps_of n deals
steps_counted n deals = sums_alike (λ p. length (nest_deeds n deals p)) (board_steps n deals) (range_with_len 0 (boards_of n.grid)) (board_length n deals)

-- what counts nothing for steps that do nothing is counted by the steps that work
abbrev IdleFree : (Deed → ℕ) → Type 0
IdleFree f = f rests ≡ 0

working_one : (f : Deed → ℕ) → IdleFree f → (d : Deed) → f d ≡ sum_by f (working (d ∷ []))
working_one f none rests = none
working_one f none d = omega arith

pub working_sum : (f : Deed → ℕ) → IdleFree f → (deeds : List Deed) → sum_by f deeds ≡ sum_by f (working deeds)
working_sum f none [] = refl
working_sum f none (d ∷ deeds) =
    omega (arith, sum_by-cons f d deeds, working_one f none d, working_sum f none deeds, split (works d))
  where
    split : (w : Bool) → sum_by f (cond w (d ∷ working deeds) (working deeds)) ≡ sum_by f (cond w (d ∷ []) []) + sum_by f (working deeds)
    split true = sum_by-append f (d ∷ []) (working deeds)
    split false = omega arith

-- a sum over a board's share is one over all events, those of others left out
share_sum : (f : Deed → ℕ) (p : ℕ) (events : List Event) → sum_by f (share_of p events) ≡ sum_by (λ ev. cond (eqb ev.0 p) (f ev.1) 0) events
share_sum f p [] = refl
share_sum f p (ev ∷ events) =
    omega (arith, sum_by-cons (λ x. cond (eqb x.0 p) (f x.1) 0) ev events, share_sum f p events, split (eqb ev.0 p))
  where
    split : (w : Bool) → sum_by f (map (λ x. x.1) (cond w (ev ∷ filter (λ x. eqb x.0 p) events) (filter (λ x. eqb x.0 p) events))) ≡ cond w (f ev.1) 0 + sum_by f (share_of p events)
    split true = sum_by-cons f ev.1 (share_of p events)
    split false = omega arith

-- one board of a range
none_of : (o v a n : ℕ) → o < a → sum_by (λ p. cond (eqb o p) v 0) (range_with_len a n) ≡ 0
none_of o v a zero h = refl
none_of o v a (suc n) h =
    omega (arith, sum_by-cons (λ p. cond (eqb o p) v 0) a (range_with_len (a + 1) n), cond-false (eqb o a) v 0 (ne_eqb o a (λ e. omega arith)), none_of o v (a + 1) n (omega arith))

one_of : (o v a n : ℕ) → a ≤ o → o < a + n → sum_by (λ p. cond (eqb o p) v 0) (range_with_len a n) ≡ v
one_of o v a zero h l = absurd (omega arith)
one_of o v a (suc n) h l =
    ⊎_elim
    (λ same. let e : o ≡ a = eqb-true o a same in omega (arith, sum_by-cons (λ p. cond (eqb o p) v 0) a (range_with_len (a + 1) n), cond-true (eqb o a) v 0 same, none_of o v (a + 1) n (omega arith)))
    (λ other. let ne = eqb-false o a other in omega (arith, sum_by-cons (λ p. cond (eqb o p) v 0) a (range_with_len (a + 1) n), cond-false (eqb o a) v 0 other, one_of o v (a + 1) n (after ne) (omega arith)))
    (cases_Bool (eqb o a))
  where
    after : (o ≡ a → ⊥) → a + 1 ≤ o
    after ne = omega (arith, ne)

-- the shares of all boards together are all events
pub shares_sum : (f : Deed → ℕ) (boards : ℕ) (events : List Event) → AllByRecursion (λ ev. ev.0 < boards) events
    → sum_by (λ p. sum_by f (share_of p events)) (range_with_len 0 boards) ≡ sum_by (λ ev. f ev.1) events
shares_sum f boards events below =
    sums_alike (λ p. sum_by f (share_of p events)) (λ p. sum_by (λ ev. cond (eqb ev.0 p) (f ev.1) 0) events) (range_with_len 0 boards) (λ p. share_sum f p events)
    ∙ sums_swap (λ p ev. cond (eqb ev.0 p) (f ev.1) 0) (range_with_len 0 boards) events
    ∙ sums_like (λ ev. sum_by (λ p. cond (eqb ev.0 p) (f ev.1) 0) (range_with_len 0 boards)) (λ ev. f ev.1) events (each events below)
  where
    each : (evs : List Event) → AllByRecursion (λ ev. ev.0 < boards) evs → AllByRecursion (λ ev. sum_by (λ p. cond (eqb ev.0 p) (f ev.1) 0) (range_with_len 0 boards) ≡ f ev.1) evs
    each [] h = tt
    each (ev ∷ evs) h = let low : ev.0 < boards = h.0 in (one_of ev.0 (f ev.1) 0 boards (omega arith) (omega arith), each evs h.1)
