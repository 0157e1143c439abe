use Rattle.std.proofs.Common.{◌≡◌, arith}
use Rattle.owner_map.specs.Meaning.{Deal, extent}
use Rattle.sections.proofs.Tablings.{places_written, positions_all}
use Rattle.sections.proofs.tabling.written_places.Goals as goal

pub loop-before-preserved : goal.loop-before-preserved
loop-before-preserved g c =
    places_written (g.M.OwnerMap.meaning c.args.map.now) (g.met.M.OwnerMap.sound c.args.map.now) c.loop-before.before (omega (arith, c.loop-before-test.true, c.length-before-end.ensures)) c.loop-before.owners c.loop-before.ranks c.loop-before.positions c.place_of-owner.result.0 c.place_of-owner.result.1 c.place_of-owner.ensures.owner c.place_of-owner.ensures.rank c.loop-before.invariant

pub returns-clause-positions : goal.returns-clause-positions
returns-clause-positions g c =
    let d : Deal = g.M.OwnerMap.meaning c.args.map.now in
    let end : c.loop-before.before ≡ extent d = omega (arith, c.loop-before-test.false, c.loop-before.auto.before-end, c.length-before-end.ensures) in
    positions_all d c.loop-before.owners c.loop-before.ranks c.loop-before.positions c.loop-before.before end c.loop-before.invariant
