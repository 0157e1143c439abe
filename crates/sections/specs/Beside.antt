-- The two places of an element. Only the private loops of scatter and gather go by this.
use Rattle.std.specs.Prelude.{◌≡◌, ℕ}
use Rattle.layout.specs.Places.{IsElement, place_of}
use Rattle.sections.specs.DealtNests.{DealtNest}
use Rattle.sections.specs.Sections.{section_of}

-- the element at a place in the arrays lies at this place in the sections
abbrev pub Beside : DealtNest → ℕ → ℕ → Type 0
Beside d place section =
    (t x y : ℕ) → IsElement d.nest.arrays t x y → place_of d.nest.arrays t x y ≡ place → section ≡ section_of d.nest.grid.rows d.deals t x y
