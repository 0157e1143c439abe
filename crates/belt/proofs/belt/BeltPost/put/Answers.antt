use Rattle.std.proofs.Common.{◌∙◌}
use Rattle.belt.proofs.BeltRows.{slot_free, slot_held, slot_kept, belt_put}
use Rattle.belt.proofs.belt.BeltPost.put.Goals as goal

pub bounds-self-self : goal.bounds-self-self
bounds-self-self g c = slot_free c.args.self.now _ _ c.in_ok-served.ensures c.args.letter (λ e. c.if-count_of-self.false (c.count_of.ensures ∙ e))

pub invariant_of-self-clause-held : goal.invariant_of-self-clause-held
invariant_of-self-clause-held g c = slot_held c.args.self.now _ _ c.in_ok-served.ensures c.args.letter (λ e. c.if-count_of-self.false (c.count_of.ensures ∙ e))

pub invariant_of-self-clause-kept : goal.invariant_of-self-clause-kept
invariant_of-self-clause-kept g c = slot_kept c.args.self.now _ _ c.in_ok-served.ensures c.args.letter (λ e. c.if-count_of-self.false (c.count_of.ensures ∙ e))

pub returns-clause-after : goal.returns-clause-after
returns-clause-after g c = belt_put c.args.self.now c.args.pair.from c.args.pair.to c.in_ok-served.ensures c.args.letter (λ e. c.if-count_of-self.false (c.count_of.ensures ∙ e))
