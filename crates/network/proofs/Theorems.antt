-- The theorems on networks, from the diamond.
use Rattle.std.proofs.Common.{◌≡◌, ℕ, ◌≤◌, Bool, true, false, cond, ltb, ◌⊎◌, List, [], ◌∷◌, sym, refl, ap, ◌∙◌, subst, inl, inr, arith}
use Rattle.std.proofs.lemmas.Bool.Decides.{nat_tests}
use Rattle.network.specs.Network.{Network, State, Step, ends, goes_on, puts, takes}
use Rattle.network.specs.Request.{Decision, absent, able, answer, decide, request}
use Rattle.network.specs.Runs.{Asked, state_after, answers, is_ran, tally, steps_run, WouldRun, HasEnded, AllRan, Complete, Names}
use Rattle.network.specs.Laws.{OrdersCommute, EveryListCompletes, DeeperRowsSameEnd, QuietRoundIsEnd}
use Rattle.network.specs.declared.answer.Answer.{Answer}
use Rattle.network.specs.declared.answer.Answer.TheVariants.{Ended}
use Rattle.network.proofs.Diamond.{ran_not_zero, led_anywhere}
use Rattle.network.proofs.Moves.{undisturbed, would_run_by, request_of_move, request_stays, request_inside, decide_deeper}

pub orders_commute : (L S : Type 0) → OrdersCommute L S
orders_commute L S = undisturbed

pub every_list_completes : (L S : Type 0) → EveryListCompletes L S
every_list_completes L S net depth s list c requests =
    led_anywhere (request net depth) net.boards (request_stays net depth) (request_inside net depth) (undisturbed net depth) s list c requests

-- A request that is answered Ran is the same request where rows may be deeper.
request_deeper : {L S : Type 0} (net : Network L S) (depth deeper : ℕ) (s : State L S) (p : ℕ) → depth ≤ deeper
    → WouldRun (request net depth) s p → request net deeper s p ≡ request net depth s p
request_deeper net depth deeper s p deep h =
    let (m, d) = would_run_by net depth s p h in
    request_of_move net deeper s p m (decide_deeper net depth deeper s p m deep d) ∙ sym (request_of_move net depth s p m d)

runs_deeper : {L S : Type 0} (net : Network L S) (depth deeper : ℕ) → depth ≤ deeper → (list : List ℕ) (s : State L S)
    → AllRan (request net depth) s list
    → AllRan (request net deeper) s list × (state_after (request net deeper) s list ≡ state_after (request net depth) s list)
unfolding state_after
runs_deeper net depth deeper deep [] s runs = (tt, refl)
runs_deeper {L} {S} net depth deeper deep (p ∷ list) s runs =
    let e = request_deeper net depth deeper s p deep runs.0 in
    let r = runs_deeper net depth deeper deep list (request net depth s p).1 runs.1 in
    let same : (request net deeper s p).1 ≡ (request net depth s p).1 = ap (λ x. x.1) e in
    ((ap (λ x. x.0) e ∙ runs.0, rw same r.0), ap (λ x. state_after (request net deeper) x list) same ∙ r.1)

-- A board says Ended whatever the depth.

able_ended : {L S : Type 0} (depth deeper : ℕ) (row : ℕ → ℕ → List L) (p : ℕ) (step : Step L S)
    → answer (able depth row p step) ≡ Ended → answer (able deeper row p step) ≡ Ended
unfolding able answer
able_ended depth deeper row p ends h = h
able_ended depth deeper row p (goes_on t) h = h
able_ended depth deeper row p (puts q x t) h = grind (arith, nat_tests)
able_ended depth deeper row p (takes q go) h = h

within_ended : {L S : Type 0} (b : Bool) (a a' : Decision L S) → (answer a ≡ Ended → answer a' ≡ Ended)
    → answer (cond b a absent) ≡ Ended → answer (cond b a' absent) ≡ Ended
within_ended true a a' f h = f h
within_ended false a a' f h = h

ended_deeper : {L S : Type 0} (net : Network L S) (depth deeper : ℕ) (s : State L S) (p : ℕ)
    → HasEnded (request net depth) s p → HasEnded (request net deeper) s p
unfolding request decide
ended_deeper net depth deeper s p h =
    within_ended (ltb p net.boards) _ _ (able_ended depth deeper s.row p (net.next p (s.own p))) h

pub deeper_rows_same_end : (L S : Type 0) → DeeperRowsSameEnd L S
deeper_rows_same_end L S net depth deeper s list deep c =
    let r = runs_deeper net depth deeper deep list s c.runs in
    let whole : Complete (request net deeper) net.boards s list =
    record {
      runs = r.0;
      ends_all = λ p b. rw r.1 (ended_deeper net depth deeper _ p (c.ends_all p b));
    }
    in
    record {
      complete = whole;
      same_end = r.1;
      led = λ requests. rw (← r.1) (every_list_completes L S net deeper s list whole requests);
    }

-- A board that would run is not silent in a round that names it and in which none ran.
named_ran : {X : Type 0} (ask : Asked X) → ((s : X) (p : ℕ) → is_ran (ask s p).0 ≡ 0 → (ask s p).1 ≡ s) → (round : List ℕ) (s : X) (q : ℕ)
    → steps_run ask s round ≡ 0 → Names round q → WouldRun ask s q → ⊥
unfolding answers tally
named_ran ask still [] s q quiet named h = named
named_ran {X} ask still (p ∷ round) s q quiet named h =
    let z : is_ran (ask s p).0 ≡ 0 = omega (arith, quiet) in
    let same = still s p z in
    let rest : steps_run ask s round ≡ 0 = subst (λ (x : X). steps_run ask x round ≡ 0) same (omega (arith, quiet)) in
    pick named z (λ n. named_ran ask still round s q rest n h)
  where
    pick : (q ≡ p) ⊎ Names round q → is_ran (ask s p).0 ≡ 0 → (Names round q → ⊥) → ⊥
    pick (inl e) z later = ran_not_zero (ask s p).0 (rw e at h) z
    pick (inr n) z later = later n

ended_or_not : (a : Answer) → (a ≡ Ended) ⊎ (a ≡ Ended → ⊥)
ended_or_not Ended = inl refl
ended_or_not _ = inr (λ h. cc)

pub quiet_round_is_end : (L S : Type 0) → QuietRoundIsEnd L S
quiet_round_is_end L S net depth deeper s list deep c requests round names quiet p b = pick (ended_or_not (ask now p).0)
  where
    ask : Asked (State L S)
    ask = request net deeper

    now : State L S
    now = state_after ask s requests

    pick : ((ask now p).0 ≡ Ended) ⊎ ((ask now p).0 ≡ Ended → ⊥) → (ask now p).0 ≡ Ended
    pick (inl e) = e
    pick (inr not_yet) =
        let (q, inside, h) = ((deeper_rows_same_end L S net depth deeper s list deep c).led requests).some_board_would_run p b not_yet in
        absurd (named_ran ask (request_stays net deeper) round now q quiet (names q inside) h)
