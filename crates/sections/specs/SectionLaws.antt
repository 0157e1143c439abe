-- Elements and places in the section buffer match one to one.
use Rattle.std.specs.Prelude.{◌≡◌, ℕ, ◌<◌, List}
use Rattle.nest.specs.declared.terms.Array.{Array}
use Rattle.layout.specs.Places.{total, IsElement}
use Rattle.sections.specs.Sections.{Deals, section_of}

-- every element lies below the total
abbrev pub SectionBelow : ℕ → List Array → Deals → Type 0
SectionBelow q arrays deals = (t x y : ℕ) → IsElement arrays t x y → section_of q deals t x y < total arrays

-- two elements never share a place
abbrev pub SectionAlone : ℕ → List Array → Deals → Type 0
SectionAlone q arrays deals =
    (t x y u v w : ℕ) → IsElement arrays t x y → IsElement arrays u v w → section_of q deals t x y ≡ section_of q deals u v w
    → (t ≡ u) × (x ≡ v) × (y ≡ w)

-- every place below the total is an element's
abbrev pub SectionTaken : ℕ → List Array → Deals → Type 0
SectionTaken q arrays deals =
    (k : ℕ) → k < total arrays → (t : ℕ) × (x : ℕ) × (y : ℕ) × IsElement arrays t x y × (section_of q deals t x y ≡ k)

-- the three together
abbrev pub OneSectionEach : ℕ → List Array → Deals → Type 0
OneSectionEach q arrays deals = SectionBelow q arrays deals × SectionAlone q arrays deals × SectionTaken q arrays deals
