-- The parts of a program make the program of the nest. Assumes nothing.
use Rattle.std.proofs.Common.{◌≡◌, ◌≤◌, true, List, map, length, sum_by, sym, ap, ◌∙◌, subst, arith}
use Rattle.std.specs.List.{range_with_len}
use Rattle.std.proofs.lemmas.List.FromFn.{length-map-range_with_len}
use Rattle.std.proofs.lemmas.List.{length-map}
use Rattle.nest.specs.Sound.{nest_kept}
use Rattle.nest.specs.Terms.{Sheet}
use Rattle.nest.proofs.Keeps.{grid_parts_lem, nest_parts}
use Rattle.sections.specs.Sections.{Deals}
use Rattle.compiler.specs.declared.parts.BoardProgram.{BoardProgram}
use Rattle.compiler.specs.declared.parts.PairLetters.{PairLetters}
use Rattle.compiler.specs.Compiled.{OneBoard, Compiled, one_board, counts_of, pairs_of, board_of}
use Rattle.compiler.specs.Keeping.{program_kept}
use Rattle.compiler.specs.Totals.{boards_of, steps_of}
use Rattle.compiler.proofs.ListSums.{sums_map}
use Rattle.compiler.proofs.ProgramKept.{program_kept_lem}

-- equal parts, equal programs
pub same_program : (c d : Compiled) → c.nest ≡ d.nest → c.boards ≡ d.boards → c.letters_between ≡ d.letters_between → c.steps ≡ d.steps → c.letters ≡ d.letters → c.depth ≡ d.depth → c ≡ d
same_program c d nest boards between steps letters depth =
    λ i. record { nest = nest i; boards = boards i; letters_between = between i; steps = steps i; letters = letters i; depth = depth i }

module _ (n : Sheet) (deals : Deals) where
  -- of the programs of all boards
  module _ (boards : List BoardProgram) (whole : map one_board boards ≡ map (board_of n deals) (range_with_len 0 (boards_of n.grid))) where
    pub few_boards : nest_kept n.grid n.arrays n.sweeps n.statements ≡ true → length boards ≤ 8
    few_boards kept =
        omega (arith, length-map boards one_board, ap length whole, length-map-range_with_len (board_of n deals) 0 (boards_of n.grid), (grid_parts_lem n.grid (nest_parts n.grid n.arrays n.sweeps n.statements kept).grid).boards)

    pub steps_of_all : sum_by (λ b. b.steps) boards ≡ steps_of n deals
    steps_of_all =
        sym (sums_map (λ (b : OneBoard). b.steps) one_board boards)
        ∙ ap (sum_by (λ (b : OneBoard). b.steps)) whole
        ∙ sums_map (λ (b : OneBoard). b.steps) (board_of n deals) (range_with_len 0 (boards_of n.grid))

    -- a sheet that says the same keeps them
    pub boards_kept : nest_kept n.grid n.arrays n.sweeps n.statements ≡ true → (m : Sheet) → m ≡ n → program_kept m (map one_board boards) ≡ true
    boards_kept kept m same = subst (λ x. program_kept x (map one_board boards) ≡ true) (sym same) (subst (λ bs. program_kept n bs ≡ true) (sym whole) (program_kept_lem n deals kept))

  -- a table for each statement
  pub tables_all : (m : Sheet) → m ≡ n → (tables : List PairLetters) → map counts_of tables ≡ map (pairs_of n deals) n.statements → length tables ≡ length m.statements
  tables_all m same tables whole =
      sym (length-map tables counts_of) ∙ ap length whole ∙ length-map n.statements (pairs_of n deals) ∙ ap (λ x. length x.statements) (sym same)
