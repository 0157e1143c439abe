-- Lists of requests, one after another, to anything that answers requests to boards: a network at a depth is one such
-- thing, by `request net depth`.
use Rattle.std.specs.Prelude.{◌≡◌, ℕ, zero, suc, ◌+◌, ◌<◌, ◌⊎◌, List, [], ◌∷◌, ◌++◌}
use Rattle.network.specs.declared.answer.Answer.{Answer}
use Rattle.network.specs.declared.answer.Answer.TheVariants.{Ran, Ended}

-- What answers requests: by a state and a board, the answer and the state that is left.
abbrev pub Asked : Type 0 → Type 0
Asked X = X → ℕ → Answer × X

-- The state that a list of requests leaves, and the answers to it.
unfoldable pub state_after : {X : Type 0} → Asked X → X → List ℕ → X
state_after ask s [] = s
state_after ask s (p ∷ ps) = state_after ask (ask s p).1 ps

unfoldable pub answers : {X : Type 0} → Asked X → X → List ℕ → List Answer
answers ask s [] = []
answers ask s (p ∷ ps) = (ask s p).0 ∷ answers ask (ask s p).1 ps

-- How many of a list of answers count, by what each counts for: those that are Ran, or those that are Ended.
unfoldable pub tally : (Answer → ℕ) → List Answer → ℕ
tally one [] = 0
tally one (a ∷ rest) = one a + tally one rest

abbrev pub is_ran : Answer → ℕ
is_ran Ran = 1
is_ran _ = 0

abbrev pub is_ended : Answer → ℕ
is_ended Ended = 1
is_ended _ = 0

-- The steps that a list of requests runs.
abbrev pub steps_run : {X : Type 0} → Asked X → X → List ℕ → ℕ
steps_run ask s ps = tally is_ran (answers ask s ps)

-- A list of requests was asked from state s: so many answers were Ran, so many Ended, and state t is left.
pub record CameTo {X : Type 0} (ask : Asked X) (s : X) (requests : List ℕ) (ran ended : ℕ) (t : X) : Type 0 where
  pub steps : ran ≡ steps_run ask s requests
  pub ends : ended ≡ tally is_ended (answers ask s requests)
  pub left_state : t ≡ state_after ask s requests

-- Board p would run, if it were asked; board p has ended, if it would say so.
abbrev pub WouldRun : {X : Type 0} → Asked X → X → ℕ → Type 0
WouldRun ask s p = (ask s p).0 ≡ Ran

abbrev pub HasEnded : {X : Type 0} → Asked X → X → ℕ → Type 0
HasEnded ask s p = (ask s p).0 ≡ Ended

-- Every board below a count has ended.
abbrev pub AllEnded : {X : Type 0} → Asked X → ℕ → X → Type 0
AllEnded ask boards s = (p : ℕ) → p < boards → HasEnded ask s p

-- Every request of a list is answered Ran.
abbrev pub AllRan : {X : Type 0} → Asked X → X → List ℕ → Type 0
AllRan ask s [] = Unit {0}
AllRan ask s (p ∷ ps) = WouldRun ask s p × AllRan ask (ask s p).1 ps

-- A complete list: every request of it is answered Ran, and it leaves every board ended.
pub record Complete {X : Type 0} (ask : Asked X) (boards : ℕ) (s : X) (list : List ℕ) : Type 0 where
  pub runs : AllRan ask s list
  pub ends_all : AllEnded ask boards (state_after ask s list)

-- A list names a board; a list names every board below a count.
abbrev pub Names : List ℕ → ℕ → Type 0
Names [] p = ⊥
Names (q ∷ qs) p = (p ≡ q) ⊎ Names qs p

abbrev pub NamesAll : ℕ → List ℕ → Type 0
NamesAll boards ps = (p : ℕ) → p < boards → Names ps p

-- The boards below a count, in turn.
unfoldable pub in_turn : ℕ → List ℕ
in_turn zero = []
in_turn (suc n) = in_turn n ++ n ∷ []

-- A list of requests, so many times over.
unfoldable pub repeated : ℕ → List ℕ → List ℕ
repeated zero list = []
repeated (suc n) list = repeated n list ++ list
