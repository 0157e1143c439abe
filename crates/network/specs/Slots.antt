-- How running code keeps a state of a network in which every board puts to one board only: a list with each board's own
-- state, and a list with what is on the way from each board.
use Rattle.std.specs.Prelude.{ℕ, cond, List, [], ◌==◌, slice_index_or}
use Rattle.network.specs.Network.{State}

-- The row from board i to board j: where j is the board that i puts to, the letters that i's slot stands for.
unfoldable pub one_way : {L C : Type 0} → (ℕ → ℕ) → (C → List L) → C → List C → ℕ → ℕ → List L
one_way to letters empty slots i j = cond (j == to i) (letters (slice_index_or slots i empty)) []

-- The state that the two lists stand for; `idle` and `empty` are what is read past their ends.
unfoldable pub held_by : {L S C : Type 0} → (ℕ → ℕ) → (C → List L) → S → C → List S → List C → State L S
held_by to letters idle empty owns slots =
    record { own = λ p. slice_index_or owns p idle; row = one_way to letters empty slots }
