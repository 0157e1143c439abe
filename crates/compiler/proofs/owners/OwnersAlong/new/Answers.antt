use Rattle.std.proofs.Common.{◌≡◌, ◌<◌, length, ◌∙◌, rules, arith, length-set}
use Rattle.nest.specs.Terms.{position}
use Rattle.compiler.proofs.OwnerLookups.{along_more}
use Rattle.compiler.proofs.owners.OwnersAlong.new.Goals as goal

pub loop-value-preserved : goal.loop-value-preserved
loop-value-preserved g c =
    let d = g.M.OwnerMap.meaning c.args.map.now in
    let at : c.unwrap.result ≡ position c.args.subscript c.loop-value.value = search rules in
    let below : c.loop-value.value < length c.loop-value.owners = omega (arith, c.loop-value.invariant.0, c.requires.2, c.loop-value-test.true) in (
      length-set c.loop-value.owners c.loop-value.value c.owner_of.result ∙ c.loop-value.invariant.0,
      along_more d c.args.subscript c.args.range.low c.loop-value.value c.loop-value.owners c.unwrap.result c.owner_of.result below c.loop-value.invariant.1
          at c.owner_of.ensures,
    )
