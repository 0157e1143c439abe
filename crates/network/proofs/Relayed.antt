-- The relay's complete list, for every number of stations, and where it ends.
use Rattle.std.proofs.Common.{◌≡◌, ℕ, zero, suc, ◌+◌, ◌-◌, ◌<◌, ◌≤◌, Bool, cond, ◌&&◌, eqb, ltb, ◌≢◌, ◌⊎◌, List, [], ◌∷◌, ◌++◌, length, get_or, set, replicate, Some, None, Option, sym, ap, ◌∙◌, inl, inr, add-one, arith, MatchOption}
use mathlib.Core.Path.{fun_ext}
use lib.ListN.{get_or-replicate, get_or-eq_default}
use Rattle.std.proofs.lemmas.Bool.{cases_eq}
use Rattle.std.proofs.lemmas.Bool.Decides.{nat_tests}
use Rattle.std.proofs.lemmas.Grind.{common_steps}
use Rattle.network.specs.Network.{State}
use Rattle.network.specs.Request.{joined, without_oldest, replaced, changed, request}
use Rattle.network.specs.Runs.{Asked, state_after, AllRan, Complete}
use Rattle.network.specs.Relaying.{plus, after, relaying, relay_of, relay_state, running_sum, twice_in_turn, MadeOf, Relayed}
use Rattle.network.specs.Slots.{one_way, held_by}
use Rattle.network.specs.Drivers.{WentRound}
use Rattle.network.specs.declared.answer.Answer.TheVariants.{Ran}
use Rattle.network.specs.declared.relay.Station.{Station}
use Rattle.network.specs.declared.relay.Station.TheVariants.{Adds, Holds, Done}
use Rattle.network.proofs.Asking.{state_after_++}
use Rattle.network.proofs.Rules as rule

all_ran_++ : {X : Type 0} (ask : Asked X) (xs ys : List ℕ) (s : X) → AllRan ask s xs → AllRan ask (state_after ask s xs) ys → AllRan ask s (xs ++ ys)
unfolding state_after
all_ran_++ ask [] ys s a b = b
all_ran_++ ask (p ∷ xs) ys s a b = (a.0, all_ran_++ ask xs ys (ask s p).1 a.1 b)

-- n stations with their values, before their first step: no letter is under way.
module _ (n : ℕ) (v : ℕ → ℕ) (s : State ℕ Station) (adds : (p : ℕ) → p < n → s.own p ≡ Adds (v p)) (empty : (i j : ℕ) → s.row i j ≡ []) where
  -- the first k stations have ended, and the last of them has put its sum
  ended_to : ℕ → State ℕ Station
  ended_to k =
      record {
        own = λ p. cond (ltb p k) (Done (running_sum v p)) (s.own p);
        row = λ i j. cond (eqb (i + 1) k && (eqb j k && ltb k n)) (running_sum v i ∷ []) [];
      }

  -- and station k has its sum
  holding : ℕ → State ℕ Station
  holding k = record { own = replaced k (Holds (running_sum v k)) (ended_to k).own; row = λ i j. [] }

  none_ended : s ≡ ended_to 0
  unfolding ended_to
  none_ended =
      let own : s.own ≡ (ended_to 0).own = fun_ext (λ p. grind (arith, nat_tests)) in
      let row : s.row ≡ (ended_to 0).row = fun_ext (λ i. fun_ext (λ j. grind (arith, nat_tests, empty))) in
      λ i. record { own = own i; row = row i }

  module _ (k : ℕ) (inside : k < n) where
    still_adds : (ended_to k).own k ≡ Adds (v k)
    unfolding ended_to
    still_adds = grind (arith, nat_tests, adds)

    -- station k takes: no letter is under way then
    no_letter_left : (q : ℕ) → q + 1 ≡ k → changed q k without_oldest (ended_to k).row ≡ (λ i j. [])
    unfolding ended_to changed without_oldest
    no_letter_left q e = fun_ext (λ i. fun_ext (λ j. grind (arith, nat_tests)))

    -- or goes on alone, as the first: no letter was
    none_under_way : k ≡ 0 → changed k k (λ r. r) (ended_to k).row ≡ (λ i j. [])
    unfolding ended_to changed
    none_under_way e = fun_ext (λ i. fun_ext (λ j. grind (arith, nat_tests)))

    first_sum : k ≡ 0 → v k ≡ running_sum v k
    unfolding running_sum
    first_sum e = ap v e ∙ sym (ap (running_sum v) e)

    next_sum : k ≢ 0 → plus (v k) (running_sum v (k - 1)) ≡ running_sum v k
    unfolding running_sum
    next_sum later =
        let e : k ≡ suc (k - 1) = omega arith in
        ap (λ x. plus (v x) (running_sum v (k - 1))) e ∙ sym (ap (running_sum v) e)

    -- first it adds
    adds_up : request (relay_of n) 1 (ended_to k) k ≡ (Ran, holding k)
    unfolding holding relay_of relaying ended_to
    adds_up = pick (cases_eq k 0)
      where
        pick : (k ≡ 0) ⊎ (k ≢ 0) → request (relay_of n) 1 (ended_to k) k ≡ (Ran, holding k)
        pick (inl first) =
            let row = none_under_way first in
            rule.ran_alone (relay_of n) 1 (ended_to k) k (Holds (v k)) inside (ap (relaying n k) still_adds ∙ grind (arith, nat_tests))
            ∙ (λ i. (Ran, record { own = replaced k (Holds (first_sum first i)) (ended_to k).own; row = row i }))
        pick (inr later) =
            let row = no_letter_left (k - 1) (omega arith) in
            rule.take_ran (relay_of n) 1 (ended_to k) k (k - 1) (λ x. Holds (plus (v k) x)) (running_sum v (k - 1)) [] inside (ap (relaying n k) still_adds ∙ grind (arith, nat_tests)) (grind (arith, nat_tests))
            ∙ (λ i. (Ran, record { own = replaced k (Holds (next_sum later i)) (ended_to k).own; row = row i }))

    holds_now : (holding k).own k ≡ Holds (running_sum v k)
    unfolding holding replaced
    holds_now = grind (arith, nat_tests)

    ends_own : replaced k (Done (running_sum v k)) (holding k).own ≡ (ended_to (k + 1)).own
    unfolding holding replaced ended_to
    ends_own = fun_ext (λ p. grind (arith, nat_tests))

    last_row : after k ≡ n → changed k k (λ r. r) (holding k).row ≡ (ended_to (k + 1)).row
    unfolding holding changed ended_to
    last_row e = fun_ext (λ i. fun_ext (λ j. grind (arith, nat_tests)))

    next_row : after k ≢ n → changed k (after k) (joined (running_sum v k)) (holding k).row ≡ (ended_to (k + 1)).row
    unfolding holding changed ended_to joined
    next_row more = fun_ext (λ i. fun_ext (λ j. grind (arith, nat_tests)))

    room : length ((holding k).row k (after k)) < 1
    unfolding holding
    room = omega arith

    -- then it passes on, or keeps
    passes_on : request (relay_of n) 1 (holding k) k ≡ (Ran, ended_to (k + 1))
    unfolding relay_of relaying
    passes_on = pick (cases_eq (after k) n)
      where
        pick : (after k ≡ n) ⊎ (after k ≢ n) → request (relay_of n) 1 (holding k) k ≡ (Ran, ended_to (k + 1))
        pick (inl last) =
            let row = last_row last in
            rule.ran_alone (relay_of n) 1 (holding k) k (Done (running_sum v k)) inside (ap (relaying n k) holds_now ∙ grind (arith, nat_tests))
            ∙ (λ i. (Ran, record { own = ends_own i; row = row i }))
        pick (inr more) =
            let row = next_row more in
            rule.put_ran (relay_of n) 1 (holding k) k (after k) (running_sum v k) (Done (running_sum v k)) inside (ap (relaying n k) holds_now ∙ grind (arith, nat_tests)) room
            ∙ (λ i. (Ran, record { own = ends_own i; row = row i }))

  ask : Asked (State ℕ Station)
  ask = request (relay_of n) 1

  both_ran : (k : ℕ) → k < n → AllRan ask (ended_to k) (k ∷ k ∷ []) × (state_after ask (ended_to k) (k ∷ k ∷ []) ≡ ended_to (k + 1))
  unfolding ask state_after
  both_ran k inside =
      let first = adds_up k inside in
      let second = ap (λ r. ask r.1 k) first ∙ passes_on k inside in
      ((ap (λ r. r.0) first, (ap (λ r. r.0) second, tt)), ap (λ r. r.1) second)

  ran_to : (k : ℕ) → k ≤ n → AllRan ask s (twice_in_turn k) × (state_after ask s (twice_in_turn k) ≡ ended_to k)
  unfolding twice_in_turn state_after
  ran_to zero le = (tt, none_ended)
  ran_to (suc k) le =
      let before = ran_to k (omega arith) in
      let both = both_ran k (omega arith) in
      let at = before.1 in (
        all_ran_++ ask (twice_in_turn k) (k ∷ k ∷ []) s before.0 (rw at both.0),
        state_after_++ ask (twice_in_turn k) (k ∷ k ∷ []) s ∙ ap (λ (x : State ℕ Station). state_after ask x (k ∷ k ∷ [])) at ∙ both.1 ∙ ap ended_to (add-one k),
      )

  pub last_own : (p : ℕ) → p < n → (state_after (request (relay_of n) 1) s (twice_in_turn n)).own p ≡ Done (running_sum v p)
  unfolding ask ended_to
  last_own p inside =
      ap (λ x. x.own p) (ran_to n (omega arith)).1 ∙ grind (arith, nat_tests)

  pub relay_completes : Complete (request (relay_of n) 1) n s (twice_in_turn n)
  unfolding ask relay_of relaying
  relay_completes =
      record {
        runs = (ran_to n (omega arith)).0;
        ends_all = λ p inside. ap (λ r. r.0) (rule.ended (relay_of n) 1 _ p inside (ap (relaying n p) (last_own p inside)));
      }

-- The same of the lists that hold a relay made of values, and what a driver then leaves.

abbrev nothing : List (Option ℕ)
nothing = replicate 8 None

no_letter : (i : ℕ) → get_or nothing i None ≡ None
no_letter i = grind (arith, get_or-replicate, get_or-eq_default)

no_row : (stations : List Station) (i j : ℕ) → (relay_state stations nothing).row i j ≡ []
unfolding held_by one_way
no_row stations i j = grind (arith, nat_tests, no_letter)

module _ (values : List ℕ) (count : ℕ) (stations : List Station) (letters : List (Option ℕ)) where
  pub made_of : count ≡ length values → ((p : ℕ) → p < length values → get_or stations p (Adds 0) ≡ Adds (get_or values p 0)) → letters ≡ replicate 8 None
      → MadeOf values count stations letters
  unfolding held_by
  made_of n adds none =
      (n, adds, none, rw none (relay_completes count (λ p. get_or values p 0) (relay_state stations nothing) (λ p h. adds p (omega (arith, h, n))) (no_row stations)))

  pub last_station : MadeOf values count stations letters → (stations' : List Station) (letters' : List (Option ℕ)) (told : Bool)
      → WentRound (relay_of count) 1 (relay_state stations letters) (relay_state stations' letters') told → 0 < count
      → get_or stations' (count - 1) (Adds 0) ≡ Done (running_sum (λ p. get_or values p 0) (count - 1))
  unfolding held_by relay_of
  last_station (n, adds, none, whole) stations' letters' told went some =
      ap (λ x. x.own (count - 1)) (went.reaches_end 1 (twice_in_turn count) (omega arith) whole).1
      ∙ ap (λ l. (state_after (request (relay_of count) 1) (relay_state stations l) (twice_in_turn count)).own (count - 1)) none
      ∙ last_own count (λ p. get_or values p 0) (relay_state stations nothing) (λ p h. adds p (omega (arith, h, n))) (no_row stations) (count - 1) (omega arith)

  pub relayed_by : MadeOf values count stations letters → (count' : ℕ) (stations' : List Station) (letters' : List (Option ℕ)) (told : Bool)
      → WentRound (relay_of count) 1 (relay_state stations letters) (relay_state stations' letters') told
      → relay_of count' ≡ relay_of count → count ≤ 8 → (r : Option ℕ)
      → MatchOption r ((x : ℕ) → get_or stations' (count' - 1) (Adds 0) ≡ Done x → count' ≡ 0) (λ x. (0 < count') × (get_or stations' (count' - 1) (Adds 0) ≡ Done x))
      → Relayed values r
  unfolding relay_of
  relayed_by made count' stations' letters' told went same few None h = pick (cases_eq count 0)
    where
      pick : (count ≡ 0) ⊎ (count ≢ 0) → (length values ≡ 0) ⊎ (8 < length values)
      pick (inl e) = inl (sym made.0 ∙ e)
      pick (inr ne) =
          let n : count' ≡ count = ap (λ x. x.boards) same in
          let last = last_station made stations' letters' told went (omega arith) in
          absurd (ne (sym n ∙ h _ (ap (λ k. get_or stations' (k - 1) (Adds 0)) n ∙ last)))
  relayed_by made count' stations' letters' told went same few (Some x) h =
      let n : count' ≡ count = ap (λ x. x.boards) same in
      let n' = made.0 in
      let last = last_station made stations' letters' told went (omega arith) in
      let there : get_or stations' (count' - 1) (Adds 0) ≡ get_or stations' (count - 1) (Adds 0) = ap (λ k. get_or stations' (k - 1) (Adds 0)) n in
      let found : x ≡ running_sum (λ p. get_or values p 0) (count - 1) = cc in
      (omega arith, omega arith, found ∙ ap (λ k. running_sum (λ p. get_or values p 0) (k - 1)) n')

-- One more station has its value.
pub one_more_station : (stations : List Station) (values : List ℕ) (p : ℕ) (s : Station) → s ≡ Adds (get_or values p 0)
    → ((k : ℕ) → k < p → get_or stations k (Adds 0) ≡ Adds (get_or values k 0)) → p < length stations
    → (k : ℕ) → k < p + 1 → get_or (set stations p s) k (Adds 0) ≡ Adds (get_or values k 0)
one_more_station stations values p s e before here k h = grind (arith, common_steps, before)
