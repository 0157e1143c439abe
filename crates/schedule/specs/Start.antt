-- States of the boards of a nest: loaded with arrays, and ended. Assumes nothing.
use Rattle.std.specs.Prelude.{◌≡◌, ℕ, ◌<◌, List, [], slice_index_or}
use Rattle.nest.specs.Terms.{Sheet}
use Rattle.nest.specs.declared.terms.Array.{Array}
use Rattle.layout.specs.Places.{IsElement, place_of}
use Rattle.sections.specs.Order.{Element}
use Rattle.sections.specs.Sections.{Deals}
use Rattle.network.specs.Network.{State}
use Rattle.compiler.specs.Totals.{boards_of}
use Rattle.schedule.specs.Boards.{Own}
use Rattle.schedule.specs.Memory.{Memory}
use Rattle.schedule.specs.Events.{owner_in, nest_deeds}

-- an element that is there
abbrev pub There : List Array → Element → Type 0
There arrays e = IsElement arrays e.0 e.1 e.2

-- a value for each element agrees with a buffer of all arrays
abbrev pub Agrees : {V : Type 0} → List Array → V → (Element → V) → List V → Type 0
Agrees arrays outside values buffer = (e : Element) → There arrays e → values e ≡ slice_index_or buffer (place_of arrays e.0 e.1 e.2) outside

-- every element's owner has the value that a buffer of all arrays has for it
abbrev pub OwnersHave : {V : Type 0} → Sheet → Deals → V → (ℕ → Own V) → List V → Type 0
OwnersHave n deals outside own buffer =
    (e : Element) → There n.arrays e → (own (owner_in n.grid.rows deals e)).elements e ≡ slice_index_or buffer (place_of n.arrays e.0 e.1 e.2) outside

-- every owner has the values of one memory, and the rows are the same
pub record Tied {V : Type 0} (Here : Element → Type 0) (owner : Element → ℕ) (s : State V (Own V)) (m : Memory V) : Type 0 where
  pub elements : (e : Element) → Here e → (s.own (owner e)).elements e ≡ m.elements e
  pub held : (e : Element) → Here e → (s.own (owner e)).held e ≡ m.held e
  pub rows : s.row ≡ m.row

-- the boards are loaded with arrays: each is before its first step, nothing was counted, no letter waits
pub record Loaded {V : Type 0} (n : Sheet) (deals : Deals) (outside : V) (arrays : List V) (s : State V (Own V)) : Type 0 where
  pub have : OwnersHave n deals outside s.own arrays
  pub todo : (p : ℕ) → p < boards_of n.grid → (s.own p).todo ≡ nest_deeds n deals p
  pub ran : (p : ℕ) → p < boards_of n.grid → (s.own p).ran ≡ 0
  pub put : (p : ℕ) → p < boards_of n.grid → (s.own p).put ≡ 0
  pub taken : (p : ℕ) → p < boards_of n.grid → (s.own p).taken ≡ 0
  pub empty : (p q : ℕ) → s.row p q ≡ []
