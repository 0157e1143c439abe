-- A deal in which board 0 keeps the front of the dimension.
use Rattle.std.specs.Prelude.{ℕ, ◌-◌, ◌%◌, ◌≤◌, cond, nat_le}
use Rattle.owner_map.specs.Meaning.{Deal}
use Rattle.owner_map.specs.Rules.{dealt, Sizes}

-- The owner of position x of p boards: board 0 has the first f positions, and from there on the boards
-- have one position each in turn.
abbrev pub front_owner : ℕ → ℕ → ℕ → ℕ
front_owner p f x = cond (nat_le x f) 0 ((x - 1 - f) % p)

-- The deal of n positions over p boards with a front of f.
abbrev pub front_deal : ℕ → ℕ → ℕ → Deal
front_deal p n f = dealt p n (front_owner p f)

-- The numbers of such a deal: the front is part of the dimension.
abbrev pub Loadable : ℕ → ℕ → ℕ → Type 0
Loadable p n f = Sizes p n × (f ≤ n)
