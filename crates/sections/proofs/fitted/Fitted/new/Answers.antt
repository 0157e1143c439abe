use Rattle.std.proofs.Common.{sym, ap, subst}
use Rattle.nest.specs.Nests.{shown}
use Rattle.sections.specs.Sections.{Deals, EachSound, Fits}
use Rattle.sections.proofs.DealtPlaces.{dealt_sound}
use Rattle.sections.proofs.fitted.Fitted.new.Goals as goal

pub invariant_of-result : goal.invariant_of-result
invariant_of-result g c =
    let kept = c.in_ok-dealt.ensures in
    ((subst (Fits (shown c.args.nest.now).grid (shown c.args.nest.now).arrays) (sym kept.2) kept.0, dealt_sound c.in_ok-dealt.dealt), kept.1)

pub returns : goal.returns
returns g c =
    let kept = c.in_ok-dealt.ensures in
    (ap (λ (deals : Deals). record { nest = shown c.args.nest.now; deals = deals }) kept.2, (kept.0, subst EachSound kept.2 (dealt_sound c.in_ok-dealt.dealt)))
