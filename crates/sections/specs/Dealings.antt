-- What the written answers of all maps of a nest stand for.
use Rattle.std.specs.Prelude.{◌≡◌, List, map, take, Ok, Err, Result}
use Rattle.nest.specs.declared.terms.Array.{Array}
use Rattle.nest.specs.declared.terms.Grid.{Grid}
use Rattle.sections.specs.declared.dealt.Dealt.{Dealt}
use Rattle.sections.specs.declared.refusal.LayoutRefusal.{LayoutRefusal}
use Rattle.sections.specs.MapTables.{tabled}
use Rattle.sections.specs.Refusals.{number}
use Rattle.sections.specs.Sections.{Deals, Fits, dealt}

-- how all arrays are dealt out
abbrev pub deals_of : Dealt → Deals
deals_of d = dealt (map tabled (take d.count d.rows)) (map tabled (take d.count d.columns))

-- the answers of these deals are written exactly where they fit the nest; elsewhere refusal 7 is given
abbrev pub Written : Grid → List Array → Deals → Result Dealt LayoutRefusal → Type 0
Written grid arrays deals (Ok d) = Fits grid arrays deals × (d.grid ≡ grid) × (deals_of d ≡ deals)
Written grid arrays deals (Err e) = (Fits grid arrays deals → ⊥) × (number e ≡ 7)
