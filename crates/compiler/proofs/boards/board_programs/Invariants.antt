use Rattle.std.proofs.Common.{◌≡◌, ◌≤◌, map, vec_items}
use Rattle.std.specs.List.{range_with_len, AllByRecursion}
use Rattle.compiler.specs.Compiled.{one_board, board_of}
use Rattle.compiler.proofs.boards.board_programs.Given as goal

abbrev pub invariant-loop-board : goal.invariant-loop-board
invariant-loop-board l =
    (map one_board (vec_items l.programs) ≡ map (board_of l.fitted.nest l.fitted.deals) (range_with_len 0 l.board)) × AllByRecursion (λ b. b.steps ≤ 871200000) (vec_items l.programs)
