-- Lists of requests put together, one request or one round at a time, and what a quiet round tells.
use Rattle.std.proofs.Common.{◌≡◌, ℕ, zero, suc, ◌+◌, ◌≤◌, List, [], ◌∷◌, ◌++◌, sym, refl, ap, ◌∙◌, subst, inl, inr, arith}
use Rattle.std.proofs.lemmas.Bool.{cases_eq}
use Rattle.network.specs.Runs.{Asked, state_after, answers, tally, is_ran, is_ended, steps_run, CameTo, AllEnded, Names, NamesAll, in_turn}
use Rattle.network.specs.declared.answer.Answer.{Answer}
use Rattle.network.specs.declared.answer.Answer.TheVariants.{Ended}

module _ {X : Type 0} (ask : Asked X) where
  pub state_after_++ : (xs ys : List ℕ) (s : X) → state_after ask s (xs ++ ys) ≡ state_after ask (state_after ask s xs) ys
  unfolding state_after
  state_after_++ [] ys s = refl
  state_after_++ (p ∷ xs) ys s = state_after_++ xs ys (ask s p).1

  pub tally_++ : (one : Answer → ℕ) (xs ys : List ℕ) (s : X)
      → tally one (answers ask s (xs ++ ys)) ≡ tally one (answers ask s xs) + tally one (answers ask (state_after ask s xs) ys)
  unfolding state_after answers tally
  tally_++ one [] ys s = omega arith
  tally_++ one (p ∷ xs) ys s = omega (arith, tally_++ one xs ys (ask s p).1)

  pub came_to_none : (s : X) → CameTo ask s [] 0 0 s
  unfolding state_after answers tally
  came_to_none s = record { steps = refl; ends = refl; left_state = refl }

  -- one more request
  pub came_to_more : (s t u : X) (requests : List ℕ) (ran ended p : ℕ) (a : Answer) → CameTo ask s requests ran ended t
      → (a, u) ≡ ask t p → CameTo ask s (requests ++ p ∷ []) (ran + is_ran a) (ended + is_ended a) u
  unfolding state_after answers tally
  came_to_more s t u requests ran ended p a c e =
      let e' : (a, u) ≡ ask (state_after ask s requests) p = rw c.left_state at e in
      let a-is : a ≡ (ask (state_after ask s requests) p).0 = ap (λ x. x.0) e' in
      record {
        steps = omega (arith, c.steps, ap is_ran a-is, tally_++ is_ran requests (p ∷ []) s);
        ends = omega (arith, c.ends, ap is_ended a-is, tally_++ is_ended requests (p ∷ []) s);
        left_state = ap (λ x. x.1) e' ∙ sym (state_after_++ requests (p ∷ []) s);
      }

-- Every board below n is named in turn.

names_before : (xs ys : List ℕ) (p : ℕ) → Names xs p → Names (xs ++ ys) p
names_before [] ys p n = elim n [ ]
names_before (q ∷ xs) ys p (inl e) = inl e
names_before (q ∷ xs) ys p (inr n) = inr (names_before xs ys p n)

names_last : (xs : List ℕ) (p q : ℕ) → p ≡ q → Names (xs ++ q ∷ []) p
names_last [] p q e = inl e
names_last (x ∷ xs) p q e = inr (names_last xs p q e)

pub in_turn_names : (n : ℕ) → NamesAll n (in_turn n)
unfolding in_turn
in_turn_names zero p h = absurd (omega arith)
in_turn_names (suc n) p h =
    elim (cases_eq p n) [ inl e ↦ names_last (in_turn n) p n e | inr ne ↦ names_before (in_turn n) (n ∷ []) p (in_turn_names n p (omega arith)) ]

-- What a quiet round in turn tells: nothing changed, and every board has ended exactly where each of them said so.

ended_is_one : (a : Answer) → a ≡ Ended → is_ended a ≡ 1
ended_is_one a e = ap is_ended e

is_ended_tells : (a : Answer) → (is_ended a ≤ 1) × (is_ended a ≡ 1 → a ≡ Ended)
is_ended_tells Ended = (omega arith, λ h. refl)
is_ended_tells _ = (omega arith, λ h. absurd (omega (arith, h)))

pub record Quiet {X : Type 0} (ask : Asked X) (s : X) (n : ℕ) : Type 0 where
  pub unchanged : state_after ask s (in_turn n) ≡ s
  pub at_most : tally is_ended (answers ask s (in_turn n)) ≤ n
  pub all_said : tally is_ended (answers ask s (in_turn n)) ≡ n → AllEnded ask n s
  pub all_say : AllEnded ask n s → tally is_ended (answers ask s (in_turn n)) ≡ n

pub quiet_tells : {X : Type 0} (ask : Asked X) → ((s : X) (p : ℕ) → is_ran (ask s p).0 ≡ 0 → (ask s p).1 ≡ s)
    → (s : X) (n : ℕ) → steps_run ask s (in_turn n) ≡ 0 → Quiet ask s n
unfolding in_turn answers tally state_after
quiet_tells ask still s zero h =
    record { unchanged = refl; at_most = omega arith; all_said = λ _ p b. absurd (omega (arith, b)); all_say = λ _. refl }
quiet_tells {X} ask still s (suc n) h =
    let split = tally_++ ask is_ran (in_turn n) (n ∷ []) s in
    let q = quiet_tells ask still s n (omega (arith, h, split)) in
    let last-quiet : is_ran (ask s n).0 ≡ 0 =
    subst (λ (x : X). is_ran (ask x n).0 ≡ 0) q.unchanged (omega (arith, h, split))
    in
    let counted : tally is_ended (answers ask s (in_turn n ++ n ∷ [])) ≡ tally is_ended (answers ask s (in_turn n)) + is_ended (ask s n).0 =
    tally_++ ask is_ended (in_turn n) (n ∷ []) s ∙ ap (λ (x : X). tally is_ended (answers ask s (in_turn n)) + (is_ended (ask x n).0 + 0)) q.unchanged ∙ omega arith
    in
    let tells = is_ended_tells (ask s n).0 in
    record {
      unchanged = state_after_++ ask (in_turn n) (n ∷ []) s ∙ ap (λ (x : X). (ask x n).1) q.unchanged ∙ still s n last-quiet;
      at_most = omega (arith, counted, q.at_most, tells.0);
      all_said = λ e p b.
          elim (cases_eq p n) [ inl same ↦ rw same (tells.1 (omega (arith, counted, e, q.at_most, tells.0))) | inr apart ↦ q.all_said (omega (arith, counted, e, q.at_most, tells.0)) p (omega (arith, b, apart)) ];
      all_say = λ all.
          omega (arith, counted, q.all_say (λ p b. all p (omega (arith, b))), ended_is_one (ask s n).0 (all n (omega arith)));
    }
