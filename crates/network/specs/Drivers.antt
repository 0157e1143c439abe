-- What a driver does that goes round until a round in which no board ran.
use Rattle.std.specs.Prelude.{◌≡◌, ℕ, ◌≤◌, Bool, true, List, Decides}
use Rattle.network.specs.Network.{Network, State}
use Rattle.network.specs.Request.{request}
use Rattle.network.specs.Runs.{state_after, steps_run, AllEnded, Complete, in_turn, repeated}
use Rattle.network.specs.Laws.{Led}

-- A complete list from s, of rows no deeper than these, decides where any list of requests leads.
abbrev pub LedByAny : {L S : Type 0} → Network L S → ℕ → State L S → List ℕ → Type 0
LedByAny net depth s requests =
    (shallower : ℕ) (list : List ℕ) → shallower ≤ depth → Complete (request net shallower) net.boards s list
    → Led (request net depth) net.boards s list requests (state_after (request net shallower) s list)

-- From state s the boards were asked in turn, round after round, and state t is left; `ended` says whether all have ended.
pub record WentRound {L S : Type 0} (net : Network L S) (depth : ℕ) (s t : State L S) (ended : Bool) : Type 0 where
  -- some number of whole rounds was asked
  pub rounds : (k : ℕ) × (t ≡ state_after (request net depth) s (repeated k (in_turn net.boards)))
  -- one more would run nothing
  pub quiet : steps_run (request net depth) t (in_turn net.boards) ≡ 0
  -- whether all have ended is told as it is
  pub told : Decides ended (AllEnded (request net depth) net.boards t)
  -- and if there is a complete list from s, of rows no deeper than these, all have, and its last state is reached
  pub reaches_end : (shallower : ℕ) (list : List ℕ) → shallower ≤ depth → Complete (request net shallower) net.boards s list
      → (ended ≡ true) × (t ≡ state_after (request net shallower) s list)
