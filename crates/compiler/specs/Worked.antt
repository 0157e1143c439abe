-- The sample nest, compiled. Assumes nothing.
use Rattle.std.specs.Prelude.{◌≡◌, ℕ, [], ◌∷◌}
use Rattle.nest.specs.declared.terms.Mode.{Mode}
use Rattle.nest.specs.declared.terms.Mode.TheVariants.{All, Seq}
use Rattle.owner_map.specs.Rules.{deal_of}
use Rattle.owner_map.specs.declared.makes.Make.{Make}
use Rattle.owner_map.specs.declared.makes.Make.TheVariants.{One, Block, Cyclic}
use Rattle.sections.specs.Sections.{Deals, dealt}
use Rattle.sequential.specs.Worked.{sample}
use Rattle.compiler.specs.Totals.{steps_of, letters_of, depth_of}

-- how the sample's one array is dealt out: its six rows by a make over two boards, its one column on one
abbrev pub sample_deals : Make → Deals
sample_deals rows = dealt (deal_of rows 2 6 ∷ []) (deal_of One 1 1 ∷ [])

-- its steps, letters and depth
abbrev pub SampleTotals : Mode → Make → ℕ → ℕ → ℕ → Type 0
SampleTotals m rows steps letters depth =
    (steps_of (sample m) (sample_deals rows) ≡ steps) × (letters_of (sample m) (sample_deals rows) ≡ letters) × (depth_of (sample m) (sample_deals rows) ≡ depth)

-- in blocks; dealt in turn; in blocks, stored at once
abbrev pub SampleCompiled : Type 0
SampleCompiled = SampleTotals All Block 20 1 1 × SampleTotals All Cyclic 20 5 3 × SampleTotals Seq Block 40 1 1
