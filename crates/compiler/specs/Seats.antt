-- What a board's view sees. Only the private code goes by these. Assumes nothing.
use Rattle.std.specs.Prelude.{List}
use Rattle.nest.specs.Terms.{Said}
use Rattle.compiler.specs.declared.view.BoardView.{BoardView}
use Rattle.compiler.specs.Compiled.{OneBoard, board_of}
use Rattle.compiler.specs.Making.{seat_in}
use Rattle.compiler.specs.Spans.{Seat}

-- its seat, and the statements of its nest
abbrev pub seat_of : BoardView → Seat
seat_of v = seat_in v.fitted.now v.board

abbrev pub statements_of : BoardView → List Said
statements_of v = v.fitted.now.nest.statements

-- what the board has to do
abbrev pub board_seen : BoardView → OneBoard
board_seen v = board_of v.fitted.now.nest v.fitted.now.deals v.board
