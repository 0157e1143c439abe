-- The rules by which the four makes deal positions to boards.
use Rattle.std.specs.Prelude.{ℕ, ◌+◌, ◌-◌, ◌*◌, ◌/◌, ◌%◌, ◌≤◌, map}
use Rattle.std.specs.List.{range_with_len}
use Rattle.owner_map.specs.declared.makes.Make.{Make}
use Rattle.owner_map.specs.declared.makes.Make.TheVariants.{One, Block, Cyclic, CyclicBy}
use Rattle.owner_map.specs.Meaning.{Deal}

-- The deal of n positions over p boards in which a rule names the owner of each position.
abbrev pub dealt : ℕ → ℕ → (ℕ → ℕ) → Deal
dealt p n rule = record { boards = p; owners = map rule (range_with_len 1 n) }

-- The width of a block: n divided by p, rounded up.
abbrev pub block_width : ℕ → ℕ → ℕ
block_width p n = (n + (p - 1)) / p

-- b is the least whole number of which p times is at least n.
abbrev pub LeastWidth : ℕ → ℕ → ℕ → Type 0
LeastWidth p n b = (n ≤ b * p) × ((c : ℕ) → n ≤ c * p → b ≤ c)

-- The owner of position x when n positions are dealt over p boards:
-- one gives everything to board 0; block gives each board in turn one block; cyclic gives single
-- positions to the boards in turn, over and over; cyclic:k does so with runs of k.
abbrev pub owner_by : Make → ℕ → ℕ → ℕ → ℕ
owner_by One p n x = 0
owner_by Block p n x = (x - 1) / block_width p n
owner_by Cyclic p n x = (x - 1) % p
owner_by (CyclicBy k) p n x = ((x - 1) / k) % p

-- The deal of n positions over p boards by a make.
abbrev pub deal_of : Make → ℕ → ℕ → Deal
deal_of make p n = dealt p n (owner_by make p n)

-- The numbers of a making: 1 to 8 boards, 1 to 32 positions.
abbrev pub Sizes : ℕ → ℕ → Type 0
Sizes p n = (1 ≤ p) × (p ≤ 8) × (1 ≤ n) × (n ≤ 32)

-- A make with a run width takes one of 1 to 32.
abbrev pub Run : Make → Type 0
Run One = Unit {0}
Run Block = Unit {0}
Run Cyclic = Unit {0}
Run (CyclicBy k) = (1 ≤ k) × (k ≤ 32)

-- The make can deal n positions over p boards.
abbrev pub Makeable : Make → ℕ → ℕ → Type 0
Makeable make p n = Sizes p n × Run make

-- The run width by which each make deals.
abbrev pub width_of : Make → ℕ → ℕ → ℕ
width_of One p n = n
width_of Block p n = block_width p n
width_of Cyclic p n = 1
width_of (CyclicBy k) p n = k
