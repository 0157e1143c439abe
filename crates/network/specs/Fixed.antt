-- What stays as it is while boards answer requests, and what answers the requests to them.
use Rattle.std.specs.Prelude.{ℕ, List, []}
use Rattle.network.specs.Network.{Network, State}
use Rattle.network.specs.Request.{request}
use Rattle.network.specs.Runs.{Asked}

-- The network that the boards are, the depth of its rows, and the ghost names of what they hold by reference: that these names
-- stay is how a lender learns what became of the memory lent.
pub record Fixed (L S : Type 0) : Type 0 where
  pub network : Network L S
  pub depth : ℕ
  pub lent : List ℕ

-- Boards that hold nothing by reference.
abbrev pub owned : {L S : Type 0} → Network L S → ℕ → Fixed L S
owned net depth = record { network = net; depth = depth; lent = [] }

-- A request to such boards.
abbrev pub asks : {L S : Type 0} → Fixed L S → Asked (State L S)
asks fixed = request fixed.network fixed.depth
