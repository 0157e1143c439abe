-- Totals: how many steps and letters a nest takes, and how deep the post must be. Assumes nothing.
use Rattle.std.specs.Prelude.{ℕ, ◌*◌, min, max, cond, ◌&&◌, List, [], ◌∷◌, map, length, fold, sum_by, filter, ◌==◌}
use Rattle.std.specs.List.{range_with_len, flat_map}
use Rattle.nest.specs.Terms.{Said, Sheet}
use Rattle.nest.specs.declared.terms.Grid.{Grid}
use Rattle.nest.specs.declared.terms.Mode.{Mode}
use Rattle.nest.specs.declared.terms.Mode.TheVariants.{All, Seq}
use Rattle.nest.specs.declared.terms.ReadTerm.{ReadTerm}
use Rattle.sections.specs.Sections.{Deals}
use Rattle.sequential.specs.Iterations.{iterations}
use Rattle.sequential.specs.declared.iteration.Iteration.{Iteration}
use Rattle.compiler.specs.declared.order.Order.{Order}
use Rattle.compiler.specs.Spans.{Seat, seat}
use Rattle.compiler.specs.Orders.{numbered, orders_for}
use Rattle.compiler.specs.Cells.{cells_of, board_at}
use Rattle.compiler.specs.Deeds.{tasks_in}

-- the boards of a grid
abbrev pub boards_of : Grid → ℕ
boards_of g = g.rows * g.columns

-- the steps of an order: one for each task of each cell
abbrev pub order_steps : Seat → Said → Order → ℕ
order_steps b s o = length (cells_of b s o) * length (tasks_in s o.work)

-- the steps of a board in one run of a statement, in one run of all, and in all sweeps
abbrev pub statement_steps : Seat → ℕ × Said → ℕ
statement_steps b ks = sum_by (order_steps b ks.1) (orders_for b ks)

abbrev pub sweep_steps : Seat → List Said → ℕ
sweep_steps b statements = sum_by (statement_steps b) (numbered 0 statements)

abbrev pub board_steps : Sheet → Deals → ℕ → ℕ
board_steps n deals p = n.sweeps * sweep_steps (seat n.grid.rows deals p) n.statements

-- the steps of all boards
abbrev pub steps_of : Sheet → Deals → ℕ
steps_of n deals = sum_by (board_steps n deals) (range_with_len 0 (boards_of n.grid))

-- sender and receiver of the letter of a read in an iteration, if its element and the target have different owners
-- (the board of the seat does not matter)
abbrev pub letter_in : Seat → Said → ReadTerm → Iteration → List (ℕ × ℕ)
letter_in b s r e =
    cond (board_at b r.source e == board_at b s.put e) [] ((board_at b r.source e, board_at b s.put e) ∷ [])

-- the letters of one run of a statement, read by read
abbrev pub letters_for : Seat → Said → ReadTerm → List (ℕ × ℕ)
letters_for b s r = flat_map (letter_in b s r) (iterations s.i s.j)

abbrev pub letters_in : Seat → Said → List (ℕ × ℕ)
letters_in b s = flat_map (letters_for b s) s.reads

-- the letters of all sweeps
abbrev pub letters_of : Sheet → Deals → ℕ
letters_of n deals = n.sweeps * sum_by (λ s. length (letters_in (seat n.grid.rows deals 0) s)) n.statements

-- how many letters of a list go from board p to board q
abbrev pub between : ℕ → ℕ → List (ℕ × ℕ) → ℕ
between p q letters = length (filter (λ l. (l.0 == p) && l.1 == q) letters)

-- the room that so many letters of one pair want in one run of a statement: all of them, or one after the other
abbrev pub room_for : Mode → ℕ → ℕ
room_for All n = n
room_for Seq n = min n 1

-- the greatest of a list, 0 if it is empty
abbrev pub greatest : List ℕ → ℕ
greatest ns = fold max 0 ns

-- the room that a statement wants for the pair that wants most
abbrev pub statement_depth : Grid → Deals → Said → ℕ
statement_depth g deals s =
    greatest
    (flat_map (λ p. map (λ q. room_for s.mode (between p q (letters_in (seat g.rows deals 0) s))) (range_with_len 0 (boards_of g))) (range_with_len 0 (boards_of g)))

-- the depth that the post must have, sweeps aside
abbrev pub depth_of : Sheet → Deals → ℕ
depth_of n deals = greatest (map (statement_depth n.grid deals) n.statements)
