-- What a program says. Assumes nothing.
use Rattle.std.specs.Prelude.{ℕ, ◌<◌, List, [], map, length, get_or, vec_items, slice_index, slice_index_or}
use Rattle.nest.specs.Nests.{shown}
use Rattle.compiler.specs.declared.order.Order.{Order}
use Rattle.compiler.specs.declared.program.Program.{Program}
use Rattle.compiler.specs.Compiled.{OneBoard, Compiled, one_board, counts_of}

abbrev pub compiled : Program → Compiled
compiled p = record {
  nest = shown p.nest;
  boards = map one_board (vec_items p.boards);
  letters_between = map counts_of (vec_items p.letters_between);
  steps = p.steps;
  letters = p.letters;
  depth = p.depth;
}

-- a board that is not there has nothing to do
abbrev pub no_board : OneBoard
no_board = record { orders = []; steps = 0 }

-- the orders of board p, and its steps
abbrev pub orders_of : Compiled → ℕ → List Order
orders_of c p = (get_or c.boards p no_board).orders

abbrev pub steps_on : Compiled → ℕ → ℕ
steps_on c p = (get_or c.boards p no_board).steps

-- a statement of the nest, and two boards of the program
abbrev pub PairThere : Compiled → ℕ → ℕ → ℕ → Type 0
PairThere c k p q = (k < length c.nest.statements) × (p < length c.boards) × (q < length c.boards)

-- the letters from board p to board q in one run of statement k
abbrev pub letters_between_boards : Compiled → ℕ → ℕ → ℕ → ℕ
letters_between_boards c k p q = slice_index (slice_index_or (slice_index_or c.letters_between k []) p []) q
