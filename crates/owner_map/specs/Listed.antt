-- Deals whose owners are written out one by one.
use Rattle.std.specs.Prelude.{ℕ, List}
use Rattle.owner_map.specs.Meaning.{Deal}

abbrev pub listed : ℕ → List ℕ → Deal
listed boards owners = record { boards = boards; owners = owners }
