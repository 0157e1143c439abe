-- Worked cases of owner maps.
use Rattle.std.specs.Prelude.{◌≡◌, Some, None}
use Rattle.owner_map.specs.declared.makes.Make.TheVariants.{Block, CyclicBy}
use Rattle.owner_map.specs.Meaning.{Deal, place, position}
use Rattle.owner_map.specs.Rules.{deal_of}

-- Ten positions in blocks over four boards: the last is the first of board 3.
abbrev pub TenInBlocks : Type 0
TenInBlocks = place (deal_of Block 4 10) 10 ≡ (3, 0)

-- Nine positions in blocks over four boards: none is left for board 3.
abbrev pub NineInBlocks : Type 0
NineInBlocks = position (deal_of Block 4 9) 3 0 ≡ None

-- Seven positions in runs of two over two boards.
abbrev pub twos : Deal
twos = deal_of (CyclicBy 2) 2 7

-- Of these, position 5 is the third of board 0, whose fourth and last is position 6.
abbrev pub SevenInTwos : Type 0
SevenInTwos = (place twos 5 ≡ (0, 2)) × (position twos 0 3 ≡ Some 6) × (position twos 0 4 ≡ None)

-- All of them, to be joined with the worked cases of other subjects.
abbrev pub WorkedMaps : Type 0
WorkedMaps = TenInBlocks × NineInBlocks × SevenInTwos
