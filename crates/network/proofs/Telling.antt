-- When each answer is given.
use Rattle.std.proofs.Common.{◌≡◌, ℕ, ◌<◌, ◌≤◌, ◌⊎◌, List, [], ◌∷◌, length, refl, ap, inl, inr}
use Rattle.std.proofs.lemmas.Bool.{cases_lt}
use Rattle.network.specs.Network.{Step, ends, goes_on, puts, takes, Network, State}
use Rattle.network.specs.Request.{request}
use Rattle.network.specs.Runs.{is_ran}
use Rattle.network.specs.Laws.{RowIsFull, RowIsEmpty, Tells, WaitsOnlyForRows}
use Rattle.network.specs.declared.answer.Answer.{Answer}
use Rattle.network.specs.declared.answer.Answer.TheVariants.{Ran, Waiting, Ended, Refused}
use Rattle.network.proofs.Moves.{request_stays}
use Rattle.network.proofs.Rules as rule

not_ran : (a : Answer) → (a ≡ Ran → ⊥) → is_ran a ≡ 0
not_ran Ran h = absurd (h refl)
not_ran _ h = refl

module _ {L S : Type 0} (net : Network L S) (depth : ℕ) (s : State L S) (p : ℕ) where
  said : Answer
  said = (request net depth s p).0

  -- one of four holds, and each decides the answer
  data Case : Type 0 where
    outside : net.boards ≤ p → said ≡ Refused → Case
    at_end : p < net.boards → net.next p (s.own p) ≡ ends → said ≡ Ended → Case
    at_row : p < net.boards → RowIsFull net depth s p ⊎ RowIsEmpty net s p → said ≡ Waiting → Case
    can_run : said ≡ Ran → Case

  waits : p < net.boards → RowIsFull net depth s p ⊎ RowIsEmpty net s p → said ≡ Waiting
  unfolding said
  waits b (inl (q, x, t, e, full)) = ap (λ r. r.0) (rule.put_waits net depth s p q x t b e full)
  waits b (inr (q, go, e, none)) = ap (λ r. r.0) (rule.take_waits net depth s p q go b e none)

  by_step : (step : Step L S) → p < net.boards → net.next p (s.own p) ≡ step → Case
  unfolding said
  by_step ends b e = at_end b e (ap (λ r. r.0) (rule.ended net depth s p b e))
  by_step (goes_on t) b e = can_run (ap (λ r. r.0) (rule.ran_alone net depth s p t b e))
  by_step (puts q x t) b e = pick (cases_lt (length (s.row p q)) depth)
    where
      pick : (length (s.row p q) < depth) ⊎ (depth ≤ length (s.row p q)) → Case
      pick (inl room) = can_run (ap (λ r. r.0) (rule.put_ran net depth s p q x t b e room))
      pick (inr full) = at_row b (inl (q, x, t, e, full)) (waits b (inl (q, x, t, e, full)))
  by_step (takes q go) b e = pick (s.row q p) refl
    where
      pick : (row : List L) → s.row q p ≡ row → Case
      pick [] none = at_row b (inr (q, go, e, none)) (waits b (inr (q, go, e, none)))
      pick (x ∷ rest) some = can_run (ap (λ r. r.0) (rule.take_ran net depth s p q go x rest b e some))

  which : Case
  unfolding said
  which = pick (cases_lt p net.boards)
    where
      pick : (p < net.boards) ⊎ (net.boards ≤ p) → Case
      pick (inl b) = by_step (net.next p (s.own p)) b refl
      pick (inr o) = outside o (ap (λ r. r.0) (rule.refused net depth s p o))

  tells_by : Case → Tells net depth s p
  unfolding said
  tells_by found =
      record {
        refused = (is_refused found, λ o. ap (λ r. r.0) (rule.refused net depth s p o));
        ended = (is_ended found, λ e. ap (λ r. r.0) (rule.ended net depth s p e.0 e.1));
        waiting = (is_waiting found, λ w. waits w.0 w.1);
        unchanged = λ h. request_stays net depth s p (not_ran (request net depth s p).0 h);
      }
    where
      is_refused : Case → (request net depth s p).0 ≡ Refused → net.boards ≤ p
      is_refused (outside o e) h = o
      is_refused (at_end b e e') h = cc
      is_refused (at_row b w e') h = cc
      is_refused (can_run e') h = cc

      is_ended : Case → (request net depth s p).0 ≡ Ended → (p < net.boards) × (net.next p (s.own p) ≡ ends)
      is_ended (outside o e') h = cc
      is_ended (at_end b e e') h = (b, e)
      is_ended (at_row b w e') h = cc
      is_ended (can_run e') h = cc

      is_waiting : Case → (request net depth s p).0 ≡ Waiting → (p < net.boards) × (RowIsFull net depth s p ⊎ RowIsEmpty net s p)
      is_waiting (outside o e') h = cc
      is_waiting (at_end b e e') h = cc
      is_waiting (at_row b w e') h = (b, w)
      is_waiting (can_run e') h = cc

pub waits_only_for_rows : (L S : Type 0) → WaitsOnlyForRows L S
waits_only_for_rows L S net depth s p = tells_by net depth s p (which net depth s p)
