use Rattle.std.proofs.Common.{sym, ◌∙◌, arith}
use Rattle.owner_map.proofs.RowSteps.{tally_hit, tally_miss, seek_here, seek_nowhere}
use Rattle.owner_map.proofs.table.lookup.find.Goals as goal
use Rattle.owner_map.proofs.table.lookup.find.Goals.{then-owner-board+else-seen-rank, else-owner-board}

pub returns-then-seen-rank : goal.returns-then-seen-rank
returns-then-seen-rank c =
    seek_here c.args.board c.args.row.now c.loop-i.i c.args.rank c.loop-i-test.true c.if-owner-board.true (sym c.loop-i.invariant.3 ∙ c.if-seen-rank.true)

pub loop-i-preserved : goal.loop-i-preserved
loop-i-preserved c =
    elim c.if-owner-board.branch [ then-owner-board+else-seen-rank w ↦ omega (arith, w.seen-is, w.if-seen-rank.false, tally_hit c.args.board c.args.row.now c.loop-i.i c.loop-i-test.true w.if-owner-board.true) | else-owner-board w ↦ omega (arith, w.seen-is, tally_miss c.args.board c.args.row.now c.loop-i.i c.loop-i-test.true w.if-owner-board.false) ]

pub returns : goal.returns
returns c =
    seek_nowhere c.args.board c.args.row.now c.loop-i.i c.args.rank c.loop-i-test.false (omega arith)
