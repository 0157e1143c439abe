use Rattle.nest.proofs.Copies.{same_images, same_items, said_same, kept_copy, shown_copy}
use Rattle.nest.specs.Views.{said}
use Rattle.nest.proofs.copying.NestClone.clone.Goals as goal

pub invariant_of-result : goal.invariant_of-result
invariant_of-result c = record {
  kept = kept_copy c.args.self.now c.in_ok-arrays.arrays c.in_ok-statements.statements
      (same_items _ (λ x y e. e) _ _ c.in_ok-arrays.ensures.cases.0)
      (same_images said _ (λ x y h. said_same x y h.0 h.1.0 h.1.1.0 h.1.1.1.0 h.1.1.1.1.0 (same_items _ (λ a b e. e) _ _ h.1.1.1.1.1.0)) _ _ c.in_ok-statements.ensures.cases.0);
}

pub returns : goal.returns
returns c = record {
  cases = shown_copy c.args.self.now c.in_ok-arrays.arrays c.in_ok-statements.statements
      (same_items _ (λ x y e. e) _ _ c.in_ok-arrays.ensures.cases.0)
      (same_images said _ (λ x y h. said_same x y h.0 h.1.0 h.1.1.0 h.1.1.1.0 h.1.1.1.1.0 (same_items _ (λ a b e. e) _ _ h.1.1.1.1.1.0)) _ _ c.in_ok-statements.ensures.cases.0);
}
