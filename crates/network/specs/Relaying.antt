-- A relay: each board takes a sum from the board before, adds its value, and passes the sum to the board after. The first
-- goes on with its own value alone, and the last keeps the sum.
use Rattle.std.specs.Prelude.{◌≡◌, ℕ, zero, suc, ◌+◌, ◌-◌, ◌%◌, ◌^◌, ◌<◌, ◌≤◌, cond, ◌⊎◌, List, [], ◌∷◌, ◌++◌, length, replicate, Some, None, Option, ◌==◌, slice_index, slice_index_or, sum_by}
use Rattle.std.specs.Option.{option_to_list}
use Rattle.network.specs.Network.{Step, ends, goes_on, puts, takes, Network, State}
use Rattle.network.specs.Request.{request}
use Rattle.network.specs.Runs.{Complete}
use Rattle.network.specs.Slots.{held_by}
use Rattle.network.specs.declared.relay.Station.{Station}
use Rattle.network.specs.declared.relay.Station.TheVariants.{Adds, Holds, Done}

-- A sum of 32 bits, which wraps.
abbrev pub plus : ℕ → ℕ → ℕ
plus x y = (x + y) % 2 ^ 32

abbrev pub after : ℕ → ℕ
after p = p + 1

-- What board p of so many does next.
unfoldable pub relaying : ℕ → ℕ → Station → Step ℕ Station
relaying count p (Adds v) = cond (p == 0) (goes_on (Holds v)) (takes (p - 1) (λ x. Holds (plus v x)))
relaying count p (Holds s) = cond (after p == count) (goes_on (Done s)) (puts (after p) s (Done s))
relaying count p (Done s) = ends

unfoldable pub relay_of : ℕ → Network ℕ Station
relay_of count = record { boards = count; next = relaying count }

-- The state of the stations and of what is on the way from each to the next: a letter or none.
abbrev pub relay_state : List Station → List (Option ℕ) → State ℕ Station
relay_state stations letters = held_by after option_to_list (Adds 0) None stations letters

-- The steps that a station has left, and all stations.
unfoldable pub station_left : Station → ℕ
station_left (Adds v) = 2
station_left (Holds s) = 1
station_left (Done s) = 0

abbrev pub relay_left : List Station → ℕ
relay_left stations = sum_by station_left stations

-- The sum that station p passes on, where v gives each station's value.
unfoldable pub running_sum : (ℕ → ℕ) → ℕ → ℕ
running_sum v zero = v 0
running_sum v (suc p) = plus (v (suc p)) (running_sum v p)

-- The stations below a count in turn, each twice.
unfoldable pub twice_in_turn : ℕ → List ℕ
twice_in_turn zero = []
twice_in_turn (suc n) = twice_in_turn n ++ n ∷ n ∷ []

-- A relay that is made of values: a station for each, with its value, before its first step, and no letter under way. Its
-- stations in turn, each twice, are a complete list.
abbrev pub MadeOf : List ℕ → ℕ → List Station → List (Option ℕ) → Type 0
MadeOf values count stations letters =
    (count ≡ length values) × ((p : ℕ) → p < length values → slice_index_or stations p (Adds 0) ≡ Adds (slice_index values p))
    × (letters ≡ replicate 8 None)
    × Complete (request (relay_of count) 1) count (relay_state stations letters) (twice_in_turn count)

-- What comes out of the relay: none where no values or more than eight were given; otherwise their sum.
abbrev pub Relayed : List ℕ → Option ℕ → Type 0
Relayed values None = (length values ≡ 0) ⊎ (8 < length values)
Relayed values (Some sum) = (0 < length values) × (length values ≤ 8) × (sum ≡ running_sum (λ p. slice_index values p) (length values - 1))
