-- The theorems, as statements: first what they say of one state or one run, then of every network.
use Rattle.std.specs.Prelude.{◌≡◌, ℕ, ◌<◌, ◌≤◌, ◌≢◌, ◌⊎◌, ◌↔◌, List, [], length}
use Rattle.network.specs.Network.{ends, puts, takes, Network, State}
use Rattle.network.specs.Request.{request}
use Rattle.network.specs.declared.answer.Answer.TheVariants.{Ran, Waiting, Ended, Refused}
use Rattle.network.specs.Runs.{Asked, state_after, steps_run, WouldRun, HasEnded, AllEnded, Complete, NamesAll}

-- Board p must put, and the row holds as many letters as the depth; or it must take, and none waits.
abbrev pub RowIsFull : {L S : Type 0} → Network L S → ℕ → State L S → ℕ → Type 0
RowIsFull {L} {S} net depth s p =
    (q : ℕ) × (x : L) × (t : S) × (net.next p (s.own p) ≡ puts q x t) × (depth ≤ length (s.row p q))

abbrev pub RowIsEmpty : {L S : Type 0} → Network L S → State L S → ℕ → Type 0
RowIsEmpty {L} {S} net s p = (q : ℕ) × (go : L → S) × (net.next p (s.own p) ≡ takes q go) × (s.row q p ≡ [])

-- When each answer is given, and that a board which did not run leaves all as it was.
pub record Tells {L S : Type 0} (net : Network L S) (depth : ℕ) (s : State L S) (p : ℕ) : Type 0 where
  pub refused : ((request net depth s p).0 ≡ Refused) ↔ (net.boards ≤ p)
  pub ended : ((request net depth s p).0 ≡ Ended) ↔ ((p < net.boards) × (net.next p (s.own p) ≡ ends))
  pub waiting : ((request net depth s p).0 ≡ Waiting) ↔ ((p < net.boards) × (RowIsFull net depth s p ⊎ RowIsEmpty net s p))
  pub unchanged : ((request net depth s p).0 ≢ Ran) → (request net depth s p).1 ≡ s

-- Boards p and q are asked one after the other: whichever is first, the other still runs, and both orders leave one state.
pub record Undisturbed {X : Type 0} (ask : Asked X) (s : X) (p q : ℕ) : Type 0 where
  pub first_still_runs : WouldRun ask (ask s q).1 p
  pub second_still_runs : WouldRun ask (ask s p).1 q
  pub one_state : (ask (ask s p).1 q).1 ≡ (ask (ask s q).1 p).1

-- Where a list of requests has led, beside a complete list from the same start and the state `end`.
pub record Led {X : Type 0} (ask : Asked X) (boards : ℕ) (s : X) (list requests : List ℕ) (end : X) : Type 0 where
  -- while some board has not ended, some board would run
  pub some_board_would_run : (p : ℕ) → p < boards → (HasEnded ask (state_after ask s requests) p → ⊥)
      → (q : ℕ) × (q < boards) × WouldRun ask (state_after ask s requests) q
  -- no more steps have run than the complete list has
  pub at_most : steps_run ask s requests ≤ length list
  -- and as many exactly when every board has ended
  pub full_count_is_end : steps_run ask s requests ≡ length list → AllEnded ask boards (state_after ask s requests)
  pub end_is_full_count : AllEnded ask boards (state_after ask s requests) → steps_run ask s requests ≡ length list
  -- and then the state is `end`
  pub one_end : AllEnded ask boards (state_after ask s requests) → state_after ask s requests ≡ end

-- A complete list at one depth, looked at with deeper rows.
pub record Deeper {L S : Type 0} (net : Network L S) (depth deeper : ℕ) (s : State L S) (list : List ℕ) : Type 0 where
  pub complete : Complete (request net deeper) net.boards s list
  pub same_end : state_after (request net deeper) s list ≡ state_after (request net depth) s list
  pub led : (requests : List ℕ) → Led (request net deeper) net.boards s list requests (state_after (request net depth) s list)

-- A board waits exactly for a row that is full or empty; and only a board that runs changes anything.
abbrev pub WaitsOnlyForRows : (L S : Type 0) → Type 0
WaitsOnlyForRows L S = (net : Network L S) (depth : ℕ) (s : State L S) (p : ℕ) → Tells net depth s p

-- Two boards that would run do not disturb each other, and both orders lead to one state.
abbrev pub OrdersCommute : (L S : Type 0) → Type 0
OrdersCommute L S =
    (net : Network L S) (depth : ℕ) (s : State L S) (p q : ℕ)
    → p ≢ q → WouldRun (request net depth) s p → WouldRun (request net depth) s q
    → Undisturbed (request net depth) s p q

-- One complete list decides where every list of requests leads.
abbrev pub EveryListCompletes : (L S : Type 0) → Type 0
EveryListCompletes L S =
    (net : Network L S) (depth : ℕ) (s : State L S) (list : List ℕ) → Complete (request net depth) net.boards s list
    → (requests : List ℕ) → Led (request net depth) net.boards s list requests (state_after (request net depth) s list)

-- The same at every greater depth, with the same last state.
abbrev pub DeeperRowsSameEnd : (L S : Type 0) → Type 0
DeeperRowsSameEnd L S =
    (net : Network L S) (depth deeper : ℕ) (s : State L S) (list : List ℕ) → depth ≤ deeper
    → Complete (request net depth) net.boards s list → Deeper net depth deeper s list

-- After a round of requests that names every board and in which none ran, every board has ended. The requests before the
-- round are any; rows may be deeper than the complete list wants.
abbrev pub QuietRoundIsEnd : (L S : Type 0) → Type 0
QuietRoundIsEnd L S =
    (net : Network L S) (depth deeper : ℕ) (s : State L S) (list : List ℕ) → depth ≤ deeper
    → Complete (request net depth) net.boards s list
    → (requests round : List ℕ) → NamesAll net.boards round
    → steps_run (request net deeper) (state_after (request net deeper) s requests) round ≡ 0
    → AllEnded (request net deeper) net.boards (state_after (request net deeper) s requests)
