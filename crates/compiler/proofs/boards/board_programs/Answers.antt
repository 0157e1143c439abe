use Rattle.std.proofs.Common.{ℕ, ◌≤◌, map, vec_items, sym, ◌∙◌, arith}
use Rattle.std.specs.List.{range_with_len}
use Rattle.std.proofs.lemmas.List.FromFn.{map-range_with_len_more}
use Rattle.compiler.specs.declared.parts.BoardProgram.{BoardProgram}
use Rattle.compiler.specs.Compiled.{OneBoard, one_board, board_of}
use Rattle.compiler.proofs.Pushing.{map_pushed, all_pushed}
use Rattle.compiler.proofs.boards.board_programs.Goals as goal

-- few steps
abbrev Small : BoardProgram → Type 0
Small b = b.steps ≤ 871200000

pub loop-board-preserved : goal.loop-board-preserved
loop-board-preserved c =
    let of-board : ℕ → OneBoard = board_of c.args.fitted.now.nest c.args.fitted.now.deals in
    let one = c.in_ok-program.field-0 in
    let before = vec_items c.loop-board.programs in
    let after = vec_items c.push.new.self in
    let pushed = c.in_ok-push.ensures.items in (
      map_pushed before after one pushed one_board (map of-board (range_with_len 0 c.loop-board.board)) (of-board c.loop-board.board) c.loop-board.invariant.0 c.in_ok-program.ensures.whole
          ∙ sym (map-range_with_len_more of-board 0 c.loop-board.board c.loop-board.board (omega arith)),
      all_pushed before after one pushed Small c.loop-board.invariant.1 c.in_ok-program.ensures.small,
    )
