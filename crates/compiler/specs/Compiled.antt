-- The program of a nest. Assumes nothing.
use Rattle.std.specs.Prelude.{ℕ, List, map, vec_items}
use Rattle.std.specs.List.{range_with_len}
use Rattle.nest.specs.Terms.{Said, Sheet}
use Rattle.sections.specs.Sections.{Deals}
use Rattle.compiler.specs.declared.order.Order.{Order}
use Rattle.compiler.specs.declared.parts.BoardProgram.{BoardProgram}
use Rattle.compiler.specs.declared.parts.PairLetters.{PairLetters}
use Rattle.compiler.specs.Spans.{seat}
use Rattle.compiler.specs.Orders.{board_orders}
use Rattle.compiler.specs.Totals.{boards_of, board_steps, steps_of, letters_in, letters_of, between, depth_of}

-- a board's orders, and its steps in all sweeps
pub record OneBoard : Type 0 where
  pub orders : List Order
  pub steps : ℕ

-- a program, with its parts as lists
pub record Compiled : Type 0 where
  pub nest : Sheet
  pub boards : List OneBoard
  -- for each statement and each of 8 senders, the letters to each of 8 receivers in one run of it
  pub letters_between : List (List (List ℕ))
  pub steps : ℕ
  pub letters : ℕ
  pub depth : ℕ

-- the parts of a program, as lists
abbrev pub one_board : BoardProgram → OneBoard
one_board b = record { orders = vec_items b.orders; steps = b.steps }

abbrev pub counts_of : PairLetters → List (List ℕ)
counts_of t = t.counts

-- the letters of one run of a statement by pairs
abbrev pub pairs_of : Sheet → Deals → Said → List (List ℕ)
pairs_of n deals s = map (λ p. map (λ q. between p q (letters_in (seat n.grid.rows deals 0) s)) (range_with_len 0 8)) (range_with_len 0 8)

-- what board p has to do
abbrev pub board_of : Sheet → Deals → ℕ → OneBoard
board_of n deals p = record { orders = board_orders (seat n.grid.rows deals p) n.statements; steps = board_steps n deals p }

-- the program of a nest whose arrays are dealt out
abbrev pub program_of : Sheet → Deals → Compiled
program_of n deals = record {
  nest = n;
  boards = map (board_of n deals) (range_with_len 0 (boards_of n.grid));
  letters_between = map (pairs_of n deals) n.statements;
  steps = steps_of n deals;
  letters = letters_of n deals;
  depth = depth_of n deals;
}
