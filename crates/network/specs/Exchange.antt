-- Two boards that exchange their values: each puts its own to the other, then takes the other's and keeps it.
use Rattle.std.specs.Prelude.{ℕ, ◌-◌, List, None, Option, sum_by}
use Rattle.std.specs.Option.{option_to_list}
use Rattle.network.specs.Network.{Step, ends, puts, takes, Network, State}
use Rattle.network.specs.Slots.{held_by}
use Rattle.network.specs.declared.pair.Phase.{Phase}
use Rattle.network.specs.declared.pair.Phase.TheVariants.{Putting, Taking, Done}
use Rattle.network.specs.declared.pair.Partner.{Partner}

abbrev pub partner : Phase → ℕ → Partner
partner phase value = record { phase = phase; value = value }

-- The other board of the two.
abbrev pub other : ℕ → ℕ
other p = 1 - p

-- What board p does next, at a phase and a value.
unfoldable pub exchanging : ℕ → Phase → ℕ → Step ℕ Partner
exchanging p Putting v = puts (other p) v (partner Taking v)
exchanging p Taking v = takes (other p) (partner Done)
exchanging p Done v = ends

unfoldable pub exchange : Network ℕ Partner
exchange = record { boards = 2; next = λ p b. exchanging p b.phase b.value }

-- The state of the two boards and of what is on the way from each: a letter or none.
abbrev pub exchange_state : List Partner → List (Option ℕ) → State ℕ Partner
exchange_state boards letters = held_by other option_to_list (partner Putting 0) None boards letters

-- The steps that a board has left at a phase, and all boards.
unfoldable pub phases_left : Phase → ℕ
phases_left Putting = 2
phases_left Taking = 1
phases_left Done = 0

abbrev pub partner_left : Partner → ℕ
partner_left b = phases_left b.phase

abbrev pub exchange_left : List Partner → ℕ
exchange_left boards = sum_by partner_left boards
