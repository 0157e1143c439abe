use Rattle.std.proofs.Common.{◌≡◌, ◌-◌, take, sym, ap, ◌∙◌, arith}
use Rattle.std.specs.List.{remove}
use Rattle.belt.proofs.Gaps.{closing_none, closing_more, closing_all}
use Rattle.belt.proofs.belt.close_gap.Goals as goal

pub loop-k-init : goal.loop-k-init
loop-k-init g c = closing_none

pub loop-k-preserved : goal.loop-k-preserved
loop-k-preserved g c = closing_more c.index-slots-k.result c.loop-k.invariant (omega arith) c.index-slots-k.is

pub returns : goal.returns
returns g c =
    let end : c.loop-k.k ≡ c.args.used = omega arith in
    ap (λ i. take (i - 1) c.loop-k.slots) (sym end)
    ∙ closing_all c.loop-k.invariant (omega arith) (omega arith)
    ∙ ap (λ i. remove (take i c.args.slots.now) c.args.gone) end
