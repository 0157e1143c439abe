-- What a request comes to, by the board's next step and the row that the step needs: one rule for each case.
use Rattle.std.proofs.Common.{◌≡◌, ℕ, ◌<◌, ◌≤◌, List, [], ◌∷◌, length, ap, ◌∙◌, arith}
use Rattle.std.proofs.lemmas.Bool.Decides.{nat_tests}
use Rattle.network.specs.Network.{Step, ends, goes_on, puts, takes, Network, State}
use Rattle.network.specs.Request.{Decision, absent, finished, waits_for, moves, joined, without_oldest, taking, able, decide, replaced, changed, moved, answer, leaves, request}
use Rattle.network.specs.declared.answer.Answer.TheVariants.{Ran, Waiting, Ended, Refused}

module _ {L S : Type 0} (net : Network L S) (depth : ℕ) (s : State L S) (p : ℕ) where
  decided : (d : Decision L S) → decide net depth s p ≡ d → request net depth s p ≡ (answer d, leaves p d s)
  unfolding request
  decided d e = ap (λ x. (answer x, leaves p x s)) e

  by_step : (step : Step L S) → p < net.boards → net.next p (s.own p) ≡ step → decide net depth s p ≡ able depth s.row p step
  unfolding decide
  by_step step inside e =
      grind (arith, nat_tests)

  pub refused : net.boards ≤ p → request net depth s p ≡ (Refused, s)
  unfolding decide answer leaves
  refused outside = decided absent (grind (arith, nat_tests))

  pub ended : p < net.boards → net.next p (s.own p) ≡ ends → request net depth s p ≡ (Ended, s)
  unfolding able answer leaves
  ended inside e = decided finished (by_step ends inside e)

  pub ran_alone : (t : S) → p < net.boards → net.next p (s.own p) ≡ goes_on t
      → request net depth s p ≡ (Ran, record { own = replaced p t s.own; row = changed p p (λ r. r) s.row })
  unfolding able answer leaves moved
  ran_alone t inside e = decided _ (by_step (goes_on t) inside e)

  pub put_waits : (q : ℕ) (x : L) (t : S) → p < net.boards → net.next p (s.own p) ≡ puts q x t → depth ≤ length (s.row p q)
      → request net depth s p ≡ (Waiting, s)
  unfolding able answer leaves
  put_waits q x t inside e full =
      decided (waits_for q) (by_step (puts q x t) inside e ∙ grind (arith, nat_tests))

  pub put_ran : (q : ℕ) (x : L) (t : S) → p < net.boards → net.next p (s.own p) ≡ puts q x t → length (s.row p q) < depth
      → request net depth s p ≡ (Ran, record { own = replaced p t s.own; row = changed p q (joined x) s.row })
  unfolding able answer leaves moved
  put_ran q x t inside e room =
      decided (moves (record { after = t; sender = p; receiver = q; change = joined x })) (by_step (puts q x t) inside e ∙ grind (arith, nat_tests))

  pub take_waits : (q : ℕ) (go : L → S) → p < net.boards → net.next p (s.own p) ≡ takes q go → s.row q p ≡ []
      → request net depth s p ≡ (Waiting, s)
  unfolding able taking answer leaves
  take_waits q go inside e none = decided (waits_for q) (by_step (takes q go) inside e ∙ ap (taking p q go) none)

  pub take_ran : (q : ℕ) (go : L → S) (x : L) (rest : List L) → p < net.boards → net.next p (s.own p) ≡ takes q go → s.row q p ≡ x ∷ rest
      → request net depth s p ≡ (Ran, record { own = replaced p (go x) s.own; row = changed q p without_oldest s.row })
  unfolding able taking answer leaves moved
  take_ran q go x rest inside e some = decided _ (by_step (takes q go) inside e ∙ ap (taking p q go) some)
