-- What holds of every sound deal, whatever map it is the meaning of.
use Rattle.std.specs.Prelude.{◌≡◌, ℕ, ◌-◌, ◌<◌, ◌≤◌, cond, Some, None, Option, nat_lt}
use Rattle.owner_map.specs.Meaning.{Deal, Position, Bound, owner, rank, place, position, below, share, sum_over}

-- The position at the place of x is x.
abbrev pub PlaceUndone : Deal → Type 0
PlaceUndone d = (x : ℕ) → Position d x → position d (owner d x) (rank d x) ≡ Some x

-- Where board b has a position at rank r, that is a position of the deal, and its place is b and r.
abbrev pub PositionUndone : Deal → Type 0
PositionUndone d = (b r x : ℕ) → position d b r ≡ Some x → Position d x × (place d x ≡ (b, r))

-- The place of what board b owns at rank r: b and r again, or none if the board owns too few.
abbrev pub place_again : Deal → ℕ → ℕ → Option (ℕ × ℕ)
place_again d b r = cond (nat_lt r (share d b)) (Some (b, r)) None

-- A board has a position at each rank from 0 up to the number that it owns, and none from there on.
abbrev pub RanksWithoutGap : Deal → Type 0
RanksWithoutGap d = (b r : ℕ) → (r < share d b → (x : ℕ) × (position d b r ≡ Some x)) × (share d b ≤ r → position d b r ≡ None)

-- Every position below a bound is counted for exactly one board.
abbrev pub CountsAddUp : Deal → Type 0
CountsAddUp d = (bound : ℕ) → Bound d bound → sum_over d.boards (λ b. below d b bound) ≡ bound - 1

-- Two positions with one owner and one rank are the same.
abbrev pub PlaceDetermines : Deal → Type 0
PlaceDetermines d = (x y : ℕ) → Position d x → Position d y → place d x ≡ place d y → x ≡ y

-- A higher bound has no fewer positions of a board below it.
abbrev pub CountsGrow : Deal → Type 0
CountsGrow d = (b low high : ℕ) → low ≤ high → below d b low ≤ below d b high

-- A board's positions rise with their ranks.
abbrev pub PositionsRise : Deal → Type 0
PositionsRise d = (b r s x y : ℕ) → r < s → position d b r ≡ Some x → position d b s ≡ Some y → x < y
