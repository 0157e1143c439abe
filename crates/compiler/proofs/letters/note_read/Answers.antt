use Rattle.std.proofs.Common.{◌≡◌, ◌+◌, arith}
use Rattle.nest.specs.Views.{said}
use Rattle.sequential.proofs.Turns.{row_more, rows_more}
use Rattle.sequential.specs.Ready.{Within}
use Rattle.sequential.specs.declared.iteration.Iteration.{Iteration}
use Rattle.compiler.specs.LetterCounts.{noting}
use Rattle.compiler.proofs.LetterNotes.{at_most_wider, at_most_more, noting_more}
use Rattle.compiler.proofs.letters.note_read.Goals as goal

pub note-requires : goal.note-requires
note-requires c =
    let e : Iteration = record { i = c.loop-i.i; j = c.loop-j.j } in
    let w : Within (said c.args.statement.now) e = (c.loop-i.auto.i, omega arith, c.loop-j.auto.j, omega arith) in
    let both = c.requires.answer e w in
    let so = c.loop-j.invariant.1 _ (c.loop-i.invariant.1 3072 c.requires.room) in
    (at_most_wider _ 4095 c.loop-j.count (omega (arith, c.requires.short)) so, (omega (arith, c.board.ensures, both.0.2), omega (arith, c.board-in-loop-j.ensures, both.1.2)))

pub loop-j-preserved : goal.loop-j-preserved
loop-j-preserved c =
    let e : Iteration = record { i = c.loop-i.i; j = c.loop-j.j } in
    let w : Within (said c.args.statement.now) e = (c.loop-i.auto.i, omega arith, c.loop-j.auto.j, omega arith) in
    let both = c.requires.answer e w in
    let step = noting_more c.args.source.now c.args.target.now e c.board.result c.board-in-loop-j.result c.loop-j.count c.note.new.self c.board.ensures c.board-in-loop-j.ensures c.note.ensures in (
      row_more (noting c.args.source.now c.args.target.now) c.loop-i.count c.loop-i.i c.args.statement.now.j c.loop-j.j c.loop-j.count c.note.new.self c.loop-j.auto.j c.loop-j.invariant.0 step,
      λ n a. at_most_more n c.args.statement.now.j.low c.loop-j.j c.board.result c.board-in-loop-j.result c.loop-j.count c.note.new.self
          c.loop-j.auto.j (omega (arith, c.board.ensures, both.0.2)) (omega (arith, c.board-in-loop-j.ensures, both.1.2)) c.note.ensures (c.loop-j.invariant.1 n a),
    )

pub loop-i-preserved : goal.loop-i-preserved
loop-i-preserved c =
    let end : c.loop-j.j ≡ c.args.statement.now.j.high + 1 = omega arith in (
      rows_more (noting c.args.source.now c.args.target.now) c.args.count.now c.args.statement.now.i c.args.statement.now.j c.loop-i.i c.loop-j.j c.loop-i.count c.loop-j.count c.loop-i.auto.i end c.loop-i.invariant.0 c.loop-j.invariant.0,
      λ n a. at_most_wider _ _ c.loop-j.count (omega (arith, c.requires.short, c.loop-i.auto.i)) (c.loop-j.invariant.1 _ (c.loop-i.invariant.1 n a)),
    )

pub returns-clause-room : goal.returns-clause-room
returns-clause-room c = λ n a. at_most_wider _ _ c.loop-i.count (omega (arith, c.requires.short)) (c.loop-i.invariant.1 n a)
