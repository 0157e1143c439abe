use Rattle.std.proofs.Common.{◌≡◌, ℕ, ◌<◌, length, get_or, replicate, None}
use Rattle.network.specs.Desks.{owns, letters}
use Rattle.network.specs.declared.relay.Station.TheVariants.{Adds}
use Rattle.network.proofs.relay.Relay.new.Given as goal

abbrev pub invariant-loop-board : goal.invariant-loop-board
invariant-loop-board l =
    (length l.desks ≡ 8) × (letters l.desks ≡ replicate 8 None) × ((k : ℕ) → k < l.board → get_or (owns l.desks) k (Adds 0) ≡ Adds (get_or l.values k 0))
