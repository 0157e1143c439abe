-- Rows of numbers that hold the answers of a deal.
use Rattle.std.specs.Prelude.{◌≡◌, ℕ, ◌+◌, ◌*◌, ◌<◌, List, take, slice_index}
use Rattle.std.specs.Option.{unwrap_or}
use Rattle.owner_map.specs.Meaning.{Deal, Board, extent, position, rank, share}

-- the rank of each position, in turn
abbrev pub RanksIn : Deal → List ℕ → Type 0
RanksIn d ranks = (k : ℕ) → k < extent d → slice_index ranks k ≡ rank d (k + 1)

-- the share of each board, in turn
abbrev pub SharesIn : Deal → List ℕ → Type 0
SharesIn d shares = (b : ℕ) → Board d b → slice_index shares b ≡ share d b

-- the position of board b and rank r, at 32 × b + r
abbrev pub PositionsIn : Deal → List ℕ → Type 0
PositionsIn d positions = (b r : ℕ) → r < share d b → slice_index positions (b * 32 + r) ≡ unwrap_or (position d b r) 0

-- the owner of each position stands at the front of a row
abbrev pub OwnersIn : Deal → List ℕ → Type 0
OwnersIn d owners = take (extent d) owners ≡ d.owners
