-- A nest and how its arrays are dealt out.
use Rattle.std.specs.Prelude.{◌≡◌, List, Ok, Err, Result}
use Rattle.nest.specs.Terms.{Sheet}
use Rattle.owner_map.specs.Meaning.{Deal}
use Rattle.sections.specs.declared.refusal.LayoutRefusal.{LayoutRefusal}
use Rattle.sections.specs.Refusals.{number}
use Rattle.sections.specs.Sections.{Deals, Fits, EachSound, dealt}

-- what a nest says, with the deals of its arrays
pub record DealtNest : Type 0 where
  pub nest : Sheet
  pub deals : Deals

-- a nest with the deals of row maps and column maps
abbrev pub nest_dealt : Sheet → List Deal → List Deal → DealtNest
nest_dealt sheet rows columns = record { nest = sheet; deals = dealt rows columns }

-- the deals fit the nest
abbrev pub NestFits : DealtNest → Type 0
NestFits d = Fits d.nest.grid d.nest.arrays d.deals

-- they do, and each is one that a map may mean
abbrev pub IsFitted : DealtNest → Type 0
IsFitted d = NestFits d × EachSound d.deals

-- a nest with these deals is given exactly where they fit it; elsewhere refusal 7 is given
abbrev pub Fitting : DealtNest → Result DealtNest LayoutRefusal → Type 0
Fitting d (Ok f) = (f ≡ d) × IsFitted d
Fitting d (Err e) = (NestFits d → ⊥) × (number e ≡ 7)
