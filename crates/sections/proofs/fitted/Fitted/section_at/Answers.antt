use Rattle.std.proofs.Common.{◌≡◌, ◌<◌, ◌≤◌, ℕ, List, Option, Some, MatchOption, vec_items, ap, ◌∙◌, subst, arith}
use Rattle.std.proofs.lemmas.Option.{MatchOption-at_some}
use Rattle.nest.specs.declared.terms.Array.{Array}
use Rattle.nest.specs.declared.terms.Grid.{Grid}
use Rattle.nest.specs.Nests.{shown}
use Rattle.layout.specs.Places.{total, IsElement, place_of}
use Rattle.sections.specs.Beside.{Beside}
use Rattle.sections.specs.Dealings.{deals_of}
use Rattle.sections.specs.DealtNests.{DealtNest}
use Rattle.sections.specs.Holdings.{DealtElement}
use Rattle.sections.specs.Sections.{Deals, section_of}
use Rattle.sections.proofs.DealtPlaces.{element_dealt}
use Rattle.sections.proofs.NestRoom.{nest_room}
use Rattle.sections.proofs.Walks.{beside_found, section_low, is_there}
use Rattle.sections.proofs.fitted.Fitted.section_at.Goals as goal

pub element_at-requires : goal.element_at-requires
element_at-requires c =
    let nest = c.self.inside.nest.now in
    let room = nest_room nest in
    omega (arith, ap total c.arrays.ensures, room.elements)

-- what is known of the element that was found
module _ (arrays laid : List Array) (place : ℕ) (o : Option (ℕ × ℕ × ℕ)) (e : ℕ × ℕ × ℕ) (found : MatchOption o (total laid ≤ place) (λ e. IsElement laid e.0 e.1 e.2 × (place_of laid e.0 e.1 e.2 ≡ place))) (is : o ≡ Some e) (same : laid ≡ arrays) where
  met : IsElement arrays e.0 e.1 e.2 × (place_of arrays e.0 e.1 e.2 ≡ place)
  met =
      subst (λ l. IsElement l e.0 e.1 e.2 × (place_of l e.0 e.1 e.2 ≡ place)) same
      (MatchOption-at_some (total laid ≤ place) (λ e. IsElement laid e.0 e.1 e.2 × (place_of laid e.0 e.1 e.2 ≡ place)) e is found)

pub unwrap-requires : goal.unwrap-requires
unwrap-requires c =
    let nest = c.self.inside.nest.now in
    let at = met (vec_items nest.arrays) c.arrays.result.now c.args.place c.element_at.result c.unwrap-array.result c.element_at.ensures c.unwrap-array.ensures c.arrays.ensures in
    is_there (DealtElement (deals_of c.self.inside.dealt) c.unwrap-array.result.0 c.unwrap-array.result.1 c.unwrap-array.result.2) _ c.place.result c.place.ensures
    (element_dealt nest.grid (vec_items nest.arrays) (deals_of c.self.inside.dealt) c.self.invariant.0.0 _ _ _ at.0)

pub returns : goal.returns
returns c =
    let nest = c.self.inside.nest.now in
    let deals : Deals = deals_of c.self.inside.dealt in
    let at = met (vec_items nest.arrays) c.arrays.result.now c.args.place c.element_at.result c.unwrap-array.result c.element_at.ensures c.unwrap-array.ensures c.arrays.ensures in
    let there = MatchOption-at_some _ _ c.unwrap.result c.unwrap.ensures c.place.ensures in
    let is : c.unwrap.result.1 ≡ section_of nest.grid.rows deals c.unwrap-array.result.0 c.unwrap-array.result.1 c.unwrap-array.result.2 =
    there.2 ∙ ap (λ (h : Grid). section_of h.rows deals c.unwrap-array.result.0 c.unwrap-array.result.1 c.unwrap-array.result.2) c.self.invariant.1 in
    let d : DealtNest = record { nest = shown nest; deals = deals } in
    record {
      beside = subst (λ f. Beside f c.args.place c.unwrap.result.1) c.self.view_is (beside_found d c.self.invariant.0 c.args.place _ _ _ c.unwrap.result.1 at.0 at.1 is);
      low = subst (λ (f : DealtNest). c.unwrap.result.1 < total f.nest.arrays) c.self.view_is (section_low d c.self.invariant.0 c.args.place _ _ _ c.unwrap.result.1 at.0 at.1 is);
    }
