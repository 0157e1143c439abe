use Rattle.std.proofs.Common.{ap, ◌∙◌, arith}
use Rattle.std.proofs.lemmas.List.{take_all}
use Rattle.owner_map.specs.Meaning.{tally}
use Rattle.owner_map.proofs.RowSteps.{tally_hit, tally_miss}
use Rattle.owner_map.proofs.table.lookup.occurrences.Goals as goal
use Rattle.owner_map.proofs.table.lookup.occurrences.Goals.{then-owner-board, else-owner-board}

pub loop-owner-preserved : goal.loop-owner-preserved
loop-owner-preserved c =
    elim c.if-owner-board.branch [ then-owner-board w ↦ omega (arith, w.seen-is, tally_hit c.args.board c.args.row.now c.loop-owner.owner-index c.loop-owner-test.true w.if-owner-board.true) | else-owner-board w ↦ omega (arith, w.seen-is, tally_miss c.args.board c.args.row.now c.loop-owner.owner-index c.loop-owner-test.true w.if-owner-board.false) ]

pub returns : goal.returns
returns c = c.loop-owner.invariant.2 ∙ ap (tally c.args.board) (take_all _ _ c.loop-owner-test.false)
