use Rattle.std.proofs.Common.{refl, ◌∙◌, arith, rules}
use Rattle.network.proofs.Rounds.{no_round, one_more_round, went_round}
use Rattle.network.proofs.driver.run_until_quiet.Goals as goal

pub loop-tally-init : goal.loop-tally-init
loop-tally-init g c =
    let b = g.N.Boards in
    let start = c.args.boards.now in
    (refl, no_round (b.fixed start) (b.state start))

pub loop-tally-preserved : goal.loop-tally-preserved
loop-tally-preserved g c =
    let b = g.N.Boards in
    let start = c.args.boards.now in
    let inv = c.loop-tally.invariant in
    let e = c.round-tally.ensures in
    (e.same ∙ inv.0, one_more_round (b.fixed start) (b.state start) inv.1 inv.0 e.came_to)

pub returns-then-tally-eq0 : goal.returns-then-tally-eq0
returns-then-tally-eq0 g c =
    let b = g.N.Boards in
    let start = c.args.boards.now in
    let inv = c.loop-tally.invariant in
    let e = c.round-tally.ensures in
    record {
      went_round = went_round (b.fixed start) (b.state start) _ inv.1 inv.0 e.came_to (omega arith) (search rules);
      same = e.same ∙ inv.0;
    }
