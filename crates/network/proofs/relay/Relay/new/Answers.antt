use Rattle.std.proofs.Common.{length, length-set, ◌<◌, None, refl, ◌∙◌, arith, rules}
use Rattle.std.proofs.Math.Seq.{map-set_same}
use Rattle.std.proofs.lemmas.List.{length-map, map-set}
use Rattle.network.specs.Desks.{desk, owns}
use Rattle.network.specs.declared.relay.Station.TheVariants.{Adds}
use Rattle.network.proofs.Relayed.{made_of, one_more_station}
use Rattle.network.proofs.relay.Relay.new.Goals as goal

pub loop-board-preserved : goal.loop-board-preserved
loop-board-preserved c =
    let inv = c.loop-board.invariant in
    let desks = c.loop-board.desks in
    let here : c.loop-board.board < length (owns desks) = rw length-map (omega arith) in (
      simp length-set inv.0,
      map-set_same (λ d. d.letter) desks c.loop-board.board _ (desk (Adds 0) None) refl ∙ inv.1,
      rw map-set (one_more_station (owns desks) c.args.values.now c.loop-board.board _ (search rules) inv.2 here),
    )

pub returns : goal.returns
returns c =
    let inv = c.loop-board.invariant in
    made_of c.args.values.now _ (owns c.loop-board.desks) _ (search rules) (λ p h. inv.2 p (omega arith)) inv.1
