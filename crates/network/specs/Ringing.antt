-- A ring: each board puts tokens to the board after and takes them from the board before, the last board and the first
-- being neighbours. A token says nothing but that it is there.
use Rattle.std.specs.Prelude.{◌≡◌, ℕ, ◌+◌, ◌-◌, ◌*◌, Bool, true, false, cond, List, length, replicate, Some, None, Option, ◌==◌, ◌≢◌, sum_by}
use Rattle.network.specs.Drivers.{WentRound}
use Rattle.network.specs.Network.{Step, ends, puts, takes, Network, State}
use Rattle.network.specs.Slots.{held_by}
use Rattle.network.specs.declared.ring.Seat.{Seat}

abbrev pub seat : ℕ → Bool → Seat
seat laps holds = record { laps = laps; holds = holds }

-- The board after and the board before, in a ring of so many.
abbrev pub board_after : ℕ → ℕ → ℕ
board_after count p = cond (p + 1 == count) 0 (p + 1)

abbrev pub board_before : ℕ → ℕ → ℕ
board_before count p = cond (p == 0) (count - 1) (p - 1)

-- What board p of so many does next: it ends when it has no lap left; else it passes the token that it holds, which ends a
-- lap, or takes one.
unfoldable pub ringing : ℕ → ℕ → ℕ → Bool → Step (Unit {0}) Seat
ringing count p laps true = puts (board_after count p) tt (seat (laps - 1) false)
ringing count p laps false = takes (board_before count p) (λ _. seat laps true)

unfoldable pub ring_of : ℕ → Network (Unit {0}) Seat
ring_of count = record { boards = count; next = λ p s. cond (s.laps == 0) ends (ringing count p s.laps s.holds) }

abbrev pub so_many : ℕ → List (Unit {0})
so_many n = replicate n tt

-- The state of the seats and of the number of tokens on the way from each to the next.
abbrev pub ring_state : ℕ → List Seat → List ℕ → State (Unit {0}) Seat
ring_state count seats tokens = held_by (board_after count) so_many (seat 0 false) 0 seats tokens

-- The steps that a seat has left, and all seats.
abbrev pub seat_left : Seat → ℕ
seat_left s = 2 * s.laps - cond s.holds 1 0

abbrev pub ring_left : List Seat → ℕ
ring_left seats = sum_by seat_left seats

-- Boards were driven round from seats and tokens: without an answer where these differ in number, and then untouched;
-- otherwise as a driver of the ring that they are.
abbrev pub Passed : List Seat → List ℕ → ℕ → List Seat → List ℕ → Option Bool → Type 0
Passed seats tokens depth seats' tokens' None =
    (length tokens ≢ length seats) × (seats' ≡ seats) × (tokens' ≡ tokens)
Passed seats tokens depth seats' tokens' (Some ended) =
    (length tokens ≡ length seats)
    × WentRound (ring_of (length seats)) depth (ring_state (length seats) seats tokens) (ring_state (length seats) seats' tokens') ended
