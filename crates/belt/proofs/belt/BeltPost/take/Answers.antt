use Rattle.belt.proofs.BeltRows.{belt_oldest, belt_take, gap_kept}
use Rattle.belt.proofs.belt.BeltPost.take.Goals as goal

pub invariant_of-self-clause-kept : goal.invariant_of-self-clause-kept
invariant_of-self-clause-kept g c = gap_kept c.args.self.now _ _ c.in-Some.found c.index-self-found.result c.close_gap.new.slots c.in-Some.ensures c.index-self-found.is c.close_gap.ensures

pub returns-clause-answer : goal.returns-clause-answer
returns-clause-answer g c = belt_oldest c.args.self.now c.args.pair.from c.args.pair.to c.in_ok-served.ensures c.in-Some.found c.index-self-found.result c.close_gap.new.slots c.in-Some.ensures c.index-self-found.is c.close_gap.ensures

pub returns-clause-after : goal.returns-clause-after
returns-clause-after g c = belt_take c.args.self.now c.args.pair.from c.args.pair.to c.in_ok-served.ensures c.in-Some.found c.index-self-found.result c.close_gap.new.slots c.in-Some.ensures c.index-self-found.is c.close_gap.ensures
