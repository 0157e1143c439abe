use Rattle.std.proofs.Common.{◌≡◌, Bool, true, false, T, List, map, vec_items, MatchBool, subst, ap₂}
use Rattle.nest.specs.declared.terms.Array.{Array}
use Rattle.nest.specs.declared.terms.Grid.{Grid}
use Rattle.sections.specs.Dealings.{deals_of}
use Rattle.sections.specs.Holdings.{SameShape}
use Rattle.sections.specs.MapTables.{tabled}
use Rattle.sections.specs.Sections.{Deals, Fits, dealt}
use Rattle.sections.proofs.DealtPlaces.{same_shape}
use Rattle.sections.proofs.dealt.Dealt.fits.Goals as goal

shape : (r : Bool) (grid : Grid) (arrays : List Array) (deals : Deals) → MatchBool r (Fits grid arrays deals) (Fits grid arrays deals → ⊥) → T r → SameShape arrays deals
shape true grid arrays deals fit on = same_shape grid arrays deals fit
shape false grid arrays deals fit on = absurd on

pub returns-clause-elements : goal.returns-clause-elements
returns-clause-elements c =
    let grid = c.args.nest.now.grid in
    let arrays = vec_items c.args.nest.now.arrays in
    let same : dealt (map tabled c.row_maps.result.now) (map tabled c.column_maps.result.now) ≡ deals_of c.args.self.now = ap₂ dealt c.row_maps.ensures c.column_maps.ensures in
    shape c.maps_fit.result grid arrays (deals_of c.args.self.now) (subst (λ deals. MatchBool c.maps_fit.result (Fits grid arrays deals) (Fits grid arrays deals → ⊥)) same c.maps_fit.ensures)
