use Rattle.std.proofs.Common.{◌≡◌, true, sym, subst, rules, tests}
use Rattle.std.proofs.lemmas.Iterator.{YieldsList-from_slice, YieldsList-from_map_by}
use Rattle.std.proofs.lemmas.Iterator.Adapters.{serves_from_places}
use Rattle.std.proofs.lemmas.Iterator.Consumers.{map_from_collect}
use Rattle.nest.specs.Nests.{shown}
use Rattle.nest.specs.Sound.{array_kept}
use Rattle.nest.proofs.Keeps.{each_at, nest_parts}
use Rattle.owner_map.specs.Runs.{runs_deal}
use Rattle.dealing.specs.Words.{deal_over, Dealable}
use Rattle.dealing.proofs.Kept.{dealable}
use Rattle.dealing.proofs.maps.maps_over.Goals as goal

pub collect-requires-clause-can : goal.collect-requires-clause-can
collect-requires-clause-can c =
    let s = shown c.args.nest.now in
    let p = nest_parts s.grid s.arrays s.sweeps s.statements c.args.nest.now.kept in (
      tt,
      serves_from_places (YieldsList-from_slice s.arrays (cc)) (λ x q k. search rules) (λ x k within e.
          let kept : array_kept x.now ≡ true = subst (λ a. array_kept a ≡ true) (sym e) (each_at array_kept s.arrays p.each_array k x.now within) in
          let can : Dealable c.args.dimension s.grid x.now = dealable c.args.dimension s.grid x.now p.grid kept in
          search rules),
    )

pub returns : goal.returns
returns c =
    let s = shown c.args.nest.now in
    map_from_collect c.collect.result c.collect.ensures.ran (YieldsList-from_map_by _ runs_deal (deal_over c.args.dimension s.grid) (YieldsList-from_slice s.arrays (cc)) c.map-maps.ensures.closure (λ x r q k. search (rules, tests)))
