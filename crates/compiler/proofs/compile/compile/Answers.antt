use Rattle.std.proofs.Common.{map, ap, ◌∙◌}
use Rattle.nest.specs.Nests.{shown}
use Rattle.nest.specs.Terms.{Sheet}
use Rattle.sections.specs.DealtNests.{DealtNest}
use Rattle.sections.specs.Sections.{Deals, dealt}
use Rattle.compiler.specs.Compiled.{program_of}
use Rattle.compiler.proofs.OrderLaws.{orders_cover}
use Rattle.compiler.proofs.compile.compile.Goals as goal

pub returns : goal.returns
returns g c =
    let sheet : Sheet = shown c.args.nest.now in
    let deals : Deals = dealt (map g.R.OwnerMap.meaning c.args.row_maps.now) (map g.C.OwnerMap.meaning c.args.column_maps.now) in
    let made = c.in-Ok.ensures in
    record {
      answer = (made.1.0, c.in_ok-program_of.ensures ∙ ap (λ (d : DealtNest). program_of d.nest d.deals) made.0);
      laws = orders_cover sheet deals c.args.nest.now.kept made.1.0 (λ t l k. (made.1.1.0 t l, made.1.1.1 t k));
    }
