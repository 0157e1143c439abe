-- What an owner map means: which board owns each position of a dimension. In the field's words, a
-- deal is a distribution of one dimension over processors.
use Rattle.std.specs.Prelude.{ℕ, zero, suc, ◌+◌, ◌-◌, ◌<◌, ◌≤◌, cond, List, [], ◌∷◌, length, take, Some, None, Option, ◌==◌, slice_index}

-- A board count, and the owner of each position in turn. Boards are numbered from 0, positions from 1.
pub record Deal : Type 0 where
  pub boards : ℕ
  pub owners : List ℕ

-- How many positions are dealt.
abbrev pub extent : Deal → ℕ
extent d = length d.owners

-- x is a position of the deal.
abbrev pub Position : Deal → ℕ → Type 0
Position d x = (1 ≤ x) × (x ≤ extent d)

-- b is a board of the deal.
abbrev pub Board : Deal → ℕ → Type 0
Board d b = b < d.boards

-- A bound may be any position, or one past the last.
abbrev pub Bound : Deal → ℕ → Type 0
Bound d bound = (1 ≤ bound) × (bound ≤ extent d + 1)

-- The owner of position x.
abbrev pub owner : Deal → ℕ → ℕ
owner d x = slice_index d.owners (x - 1)

-- A deal that an owner map may mean: 1 to 8 boards, 1 to 32 positions, each owned by a board of the deal.
abbrev pub Sound : Deal → Type 0
Sound d = (1 ≤ d.boards) × (d.boards ≤ 8) × (1 ≤ extent d) × (extent d ≤ 32) × ((x : ℕ) → Position d x → Board d (owner d x))

-- How often board b stands in a row of owners.
abbrev pub tally : ℕ → List ℕ → ℕ
tally b [] = 0
tally b (o ∷ row) = cond (o == b) (suc (tally b row)) (tally b row)

-- How many positions lower than the bound board b owns.
abbrev pub below : Deal → ℕ → ℕ → ℕ
below d b bound = tally b (take (bound - 1) d.owners)

-- How many positions board b owns in all.
abbrev pub share : Deal → ℕ → ℕ
share d b = below d b (extent d + 1)

-- The rank of position x: how many lower positions have the same owner.
abbrev pub rank : Deal → ℕ → ℕ
rank d x = below d (owner d x) x

-- The place of position x: its owner and its rank, together.
abbrev pub place : Deal → ℕ → ℕ × ℕ
place d x = (owner d x, rank d x)

-- In a row of owners whose first has position x: the position at which board b stands after r earlier ones.
abbrev pub seek : ℕ → ℕ → ℕ → List ℕ → Option ℕ
seek x b r [] = None
seek x b zero (o ∷ row) = cond (o == b) (Some x) (seek (suc x) b zero row)
seek x b (suc r) (o ∷ row) = cond (o == b) (seek (suc x) b r row) (seek (suc x) b (suc r) row)

-- The position that board b owns with rank r, or none if the board owns too few.
abbrev pub position : Deal → ℕ → ℕ → Option ℕ
position d b r = seek 1 b r d.owners

-- The sum of a number for each board below p.
abbrev pub sum_over : ℕ → (ℕ → ℕ) → ℕ
sum_over zero of-board = 0
sum_over (suc p) of-board = sum_over p of-board + of-board p
