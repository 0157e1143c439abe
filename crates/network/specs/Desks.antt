-- A list of desks as the two lists that it stands for: each board's own state, and the letter on the way from each board.
use Rattle.std.specs.Prelude.{ℕ, List, map, Option}
use Rattle.network.specs.declared.desk.Desk.{Desk}

-- a desk of a state and a letter on the way
abbrev pub desk : {S : Type 0} → S → Option ℕ → Desk S
desk own letter = record { own = own; letter = letter }

-- each board's own state
abbrev pub owns : {S : Type 0} → List (Desk S) → List S
owns desks = map (λ d. d.own) desks

-- the letter on the way from each board
abbrev pub letters : {S : Type 0} → List (Desk S) → List (Option ℕ)
letters desks = map (λ d. d.letter) desks
