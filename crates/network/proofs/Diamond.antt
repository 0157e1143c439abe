-- Whatever answers requests so that two boards that would run do not disturb each other: where any list of requests leads,
-- beside one complete list. It knows no network.
use Rattle.std.proofs.Common.{◌≡◌, ℕ, ◌+◌, ◌<◌, ◌≢◌, ◌⊎◌, List, [], ◌∷◌, length, refl, ap, ◌∙◌, inl, inr, arith}
use Rattle.std.proofs.lemmas.Bool.{cases_eq}
use Rattle.network.specs.Runs.{Asked, state_after, answers, is_ran, tally, steps_run, WouldRun, AllEnded, AllRan, Complete}
use Rattle.network.specs.Laws.{Undisturbed, Led}
use Rattle.network.specs.declared.answer.Answer.{Answer}
use Rattle.network.specs.declared.answer.Answer.TheVariants.{Ran, Ended}

pub ran_or_not : (a : Answer) → (a ≡ Ran) ⊎ (is_ran a ≡ 0)
ran_or_not Ran = inl refl
ran_or_not _ = inr refl

pub ran_is_one : (a : Answer) → a ≡ Ran → is_ran a ≡ 1
ran_is_one a e = ap is_ran e

-- no answer is both
pub ran_not_ended : (a : Answer) → a ≡ Ran → a ≡ Ended → ⊥
ran_not_ended a p q = cc

pub ran_not_zero : (a : Answer) → a ≡ Ran → is_ran a ≡ 0 → ⊥
ran_not_zero a p q = omega (arith, ran_is_one a p)

-- What is left to run from a state s, where `ran` of `total` steps have run, to come to the state `end`.
pub record Rest {X : Type 0} (ask : Asked X) (s : X) (ran total : ℕ) (end : X) : Type 0 where
  pub list : List ℕ
  pub counted : ran + length list ≡ total
  pub runs : AllRan ask s list
  pub same_end : state_after ask s list ≡ end

module _ {X : Type 0} (ask : Asked X) (boards : ℕ)
    (still : (s : X) (p : ℕ) → is_ran (ask s p).0 ≡ 0 → (ask s p).1 ≡ s)
    (inside : (s : X) (p : ℕ) → WouldRun ask s p → p < boards)
    (diamond : (s : X) (p q : ℕ) → p ≢ q → WouldRun ask s p → WouldRun ask s q → Undisturbed ask s p q)
  where
    -- A board that would run can be asked first: what is left is the list without that board's first request.
    exchange : (list : List ℕ) (s end : X) (p : ℕ) → AllEnded ask boards end → AllRan ask s list
        → state_after ask s list ≡ end → WouldRun ask s p → Rest ask (ask s p).1 1 (length list) end
    unfolding state_after
    exchange [] s end p done runs same h =
        absurd (ran_not_ended (ask s p).0 h (rw same (done p (inside s p h))))
    exchange (q ∷ list) s end p done runs same h =
        pick (cases_eq p q) (λ ne. exchange list (ask s q).1 end p done runs.1 same (diamond s p q ne h runs.0).first_still_runs)
      where
        pick : (p ≡ q) ⊎ (p ≢ q) → (p ≢ q → Rest ask (ask (ask s q).1 p).1 1 (length list) end)
            → Rest ask (ask s p).1 1 (length (q ∷ list)) end
        pick (inl e) ih = record {
          list = list;
          counted = omega arith;
          runs = rw e runs.1;
          same_end = ap (λ (r : ℕ). state_after ask (ask s r).1 list) e ∙ same;
        }
        pick (inr ne) ih =
            let m = diamond s p q ne h runs.0 in
            let r = ih ne in
            record {
              list = q ∷ r.list;
              counted = omega (arith, r.counted);
              runs = (m.second_still_runs, rw m.one_state r.runs);
              same_end = ap (λ (x : X). state_after ask x r.list) m.one_state ∙ r.same_end;
            }

    -- One request, whatever its answer.
    one_request : (list : List ℕ) (s end : X) (p : ℕ) → AllEnded ask boards end → AllRan ask s list
        → state_after ask s list ≡ end → Rest ask (ask s p).1 (is_ran (ask s p).0) (length list) end
    one_request list s end p done runs same = pick (ran_or_not (ask s p).0)
      where
        pick : ((ask s p).0 ≡ Ran) ⊎ (is_ran (ask s p).0 ≡ 0)
            → Rest ask (ask s p).1 (is_ran (ask s p).0) (length list) end
        pick (inl h) =
            let r = exchange list s end p done runs same h in
            record {
              list = r.list;
              counted = omega (arith, ran_is_one (ask s p).0 h, r.counted);
              runs = r.runs;
              same_end = r.same_end;
            }
        pick (inr z) =
            let e = still s p z in
            record {
              list = list;
              counted = omega (arith, z);
              runs = rw e runs;
              same_end = ap (λ (x : X). state_after ask x list) e ∙ same;
            }

    -- Any list of requests: what is left leads to the same end.
    pub any_list : (requests list : List ℕ) (s end : X) → AllEnded ask boards end → AllRan ask s list
        → state_after ask s list ≡ end → Rest ask (state_after ask s requests) (steps_run ask s requests) (length list) end
    unfolding state_after answers tally
    any_list [] list s end done runs same = record { list = list; counted = omega arith; runs = runs; same_end = same }
    any_list (p ∷ requests) list s end done runs same =
        let r = one_request list s end p done runs same in
        let t = any_list requests r.list (ask s p).1 end done r.runs r.same_end in
        record { list = t.list; counted = omega (arith, r.counted, t.counted); runs = t.runs; same_end = t.same_end }

    -- So one complete list decides where every list of requests leads.
    pub led_anywhere : (s : X) (list : List ℕ) → Complete ask boards s list → (requests : List ℕ)
        → Led ask boards s list requests (state_after ask s list)
    unfolding state_after
    led_anywhere s list c requests =
        let t = any_list requests list s (state_after ask s list) c.ends_all c.runs refl in
        by_rest t.list t.counted t.runs t.same_end
      where
        now : X
        now = state_after ask s requests

        by_rest : (rest : List ℕ) → steps_run ask s requests + length rest ≡ length list → AllRan ask now rest
            → state_after ask now rest ≡ state_after ask s list → Led ask boards s list requests (state_after ask s list)
        by_rest [] n runs same =
            let done : AllEnded ask boards now = rw same c.ends_all in
            record {
              some_board_would_run = λ p b not_yet. absurd (not_yet (done p b));
              at_most = omega (arith, n);
              full_count_is_end = λ _. done;
              end_is_full_count = λ _. omega (arith, n);
              one_end = λ _. same;
            }
        by_rest (q ∷ rest) n runs same =
            let b = inside now q runs.0 in
            record {
              some_board_would_run = λ p _ _. (q, b, runs.0);
              at_most = omega (arith, n);
              full_count_is_end = λ full. absurd (omega (arith, n, full));
              end_is_full_count = λ done. absurd (ran_not_ended (ask now q).0 runs.0 (done q b));
              one_end = λ done. absurd (ran_not_ended (ask now q).0 runs.0 (done q b));
            }
