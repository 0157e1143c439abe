-- Requests that all ran, and what they leave alone: steps run and steps to run together, and so letters. Assumes nothing.
use Rattle.std.proofs.Common.{◌≡◌, ℕ, zero, suc, ◌+◌, ◌<◌, ◌≢◌, ◌⊎◌, List, [], ◌∷◌, ◌++◌, length, sum_by, sym, refl, ap, ◌∙◌, subst, inl, inr, arith, length-append}
use Rattle.std.specs.List.{range_with_len}
use Rattle.std.proofs.lemmas.List.Sums.{sum_by-cons}
use Rattle.std.proofs.lemmas.Bool.{cases_eq}
use Rattle.owner_map.specs.Meaning.{sum_over}
use Rattle.sections.proofs.Sums.{sum_like}
use Rattle.sequential.specs.Run.{Setting}
use Rattle.network.specs.Network.{State}
use Rattle.network.specs.Request.{replaced, request}
use Rattle.network.specs.Runs.{Asked, AllRan, state_after}
use Rattle.network.specs.declared.answer.Answer.TheVariants.{Ran}
use Rattle.network.proofs.Asking.{state_after_++}
use Rattle.network.proofs.Moves.{replaced_other}
use Rattle.compiler.specs.Deeds.{Deed}
use Rattle.compiler.proofs.ListSums.{sums_below}
use Rattle.schedule.specs.Boards.{Own, boards_that}
use Rattle.schedule.specs.Laws.{puts_in, takes_in}
use Rattle.schedule.proofs.TiedStates.{replaced_here}

pub all_ran_++ : {X : Type 0} (ask : Asked X) (xs ys : List ℕ) (s : X) → AllRan ask s xs → AllRan ask (state_after ask s xs) ys → AllRan ask s (xs ++ ys)
unfolding state_after
all_ran_++ ask [] ys s a b = b
all_ran_++ ask (p ∷ xs) ys s a b = (a.0, all_ran_++ ask xs ys (ask s p).1 a.1 b)

-- one term is lower by one, the others stay: so the sum is lower by one
pub sum_one_less : (f g : ℕ → ℕ) (p n : ℕ) → p < n → f p ≡ g p + 1 → ((q : ℕ) → q ≢ p → f q ≡ g q) → sum_over n f ≡ sum_over n g + 1
sum_one_less f g p zero h e same = absurd (omega arith)
sum_one_less f g p (suc n) h e same = pick (cases_eq n p) (λ l. sum_one_less f g p n l e same)
  where
    pick : (n ≡ p) ⊎ (n ≢ p) → (p < n → sum_over n f ≡ sum_over n g + 1) → sum_over n f + f n ≡ sum_over n g + g n + 1
    pick (inl here) ih =
        let before = sum_like f g n (λ i l. same i (omega arith)) in
        let at : f n ≡ g n + 1 = ap f here ∙ e ∙ ap (λ q. g q + 1) (sym here) in
        omega arith
    pick (inr ne) ih = let before = ih (omega arith) in let at = same n ne in omega arith

pub sums_one_less : (f g : ℕ → ℕ) (p n : ℕ) → p < n → f p ≡ g p + 1 → ((q : ℕ) → q ≢ p → f q ≡ g q) → 1 + sum_by g (range_with_len 0 n) ≡ sum_by f (range_with_len 0 n)
sums_one_less f g p n h e same = let less = sum_one_less f g p n h e same in omega (arith, sums_below f n, sums_below g n)

-- the steps that boards have to run
abbrev pub steps_left : {V : Type 0} → ℕ → State V (Own V) → ℕ
steps_left boards s = sum_by (λ p. length (s.own p).todo) (range_with_len 0 boards)

-- what a board ran and has to run; the letters that it put and has to put; those that it took and has to take
abbrev pub ran_in_all : {V : Type 0} → Own V → ℕ
ran_in_all o = o.ran + length o.todo

abbrev pub put_in_all : {V : Type 0} → Own V → ℕ
put_in_all o = o.put + sum_by puts_in o.todo

abbrev pub taken_in_all : {V : Type 0} → Own V → ℕ
taken_in_all o = o.taken + sum_by takes_in o.todo

-- requests lead from one state to another: each was answered ran
pub record Went {V : Type 0} (k : Setting V) (boards depth : ℕ) (s t : State V (Own V)) (list : List ℕ) : Type 0 where
  pub runs : AllRan (request (boards_that k boards) depth) s list
  pub leads : state_after (request (boards_that k boards) depth) s list ≡ t
  pub ran : (p : ℕ) → ran_in_all (t.own p) ≡ ran_in_all (s.own p)
  pub put : (p : ℕ) → put_in_all (t.own p) ≡ put_in_all (s.own p)
  pub taken : (p : ℕ) → taken_in_all (t.own p) ≡ taken_in_all (s.own p)
  pub long : length list + steps_left boards t ≡ steps_left boards s

module _ {V : Type 0} {k : Setting V} {boards depth : ℕ} where
  -- no request
  pub went_nowhere : {s : State V (Own V)} → Went k boards depth s s []
  unfolding state_after
  went_nowhere = record { runs = tt; leads = refl; ran = λ _. refl; put = λ _. refl; taken = λ _. refl; long = omega arith }

  -- requests after requests
  pub went_on : {s t u : State V (Own V)} {xs ys : List ℕ} → Went k boards depth s t xs → Went k boards depth t u ys → Went k boards depth s u (xs ++ ys)
  went_on {s} {t} {u} {xs} {ys} a b =
      let ask = request (boards_that k boards) depth in
      record {
        runs = all_ran_++ ask xs ys s a.runs (subst (λ (x : State V (Own V)). AllRan ask x ys) (sym a.leads) b.runs);
        leads = state_after_++ ask xs ys s ∙ ap (λ (x : State V (Own V)). state_after ask x ys) a.leads ∙ b.leads;
        ran = λ p. b.ran p ∙ a.ran p;
        put = λ p. b.put p ∙ a.put p;
        taken = λ p. b.taken p ∙ a.taken p;
        long = omega (arith, length-append xs ys, a.long, b.long);
      }

module _ {V : Type 0} (k : Setting V) (boards depth : ℕ) where
  -- one request, to a board that counts its step
  pub one_step : (s : State V (Own V)) (p : ℕ) (d : Deed) (rest : List Deed) (new : Own V) (row : ℕ → ℕ → List V) → p < boards → (s.own p).todo ≡ d ∷ rest
      → new.todo ≡ rest → new.ran ≡ (s.own p).ran + 1 → new.put ≡ (s.own p).put + puts_in d → new.taken ≡ (s.own p).taken + takes_in d
      → request (boards_that k boards) depth s p ≡ (Ran, record { own = replaced p new s.own; row = row })
      → Went k boards depth s (record { own = replaced p new s.own; row = row }) (p ∷ [])
  unfolding state_after
  one_step s p d rest new row inside now later ran put taken asked =
      let fewer : length (s.own p).todo ≡ length rest + 1 = ap length now ∙ omega arith in
      let fewer-puts : sum_by puts_in (s.own p).todo ≡ puts_in d + sum_by puts_in rest = ap (sum_by puts_in) now ∙ sum_by-cons puts_in d rest in
      let fewer-takes : sum_by takes_in (s.own p).todo ≡ takes_in d + sum_by takes_in rest = ap (sum_by takes_in) now ∙ sum_by-cons takes_in d rest in
      let here = replaced_here p new s.own in
      record {
        runs = (ap (λ x. x.0) asked, tt);
        leads = ap (λ x. x.1) asked;
        ran = by ran_in_all (omega (arith, ap length later));
        put = by put_in_all (omega (arith, ap (sum_by puts_in) later));
        taken = by taken_in_all (omega (arith, ap (sum_by takes_in) later));
        long = sums_one_less (λ q. length (s.own q).todo) (λ q. length (replaced p new s.own q).todo) p boards inside
            (fewer ∙ ap (λ n. n + 1) (sym (ap (λ o. length o.todo) here ∙ ap length later)))
            (λ q ne. sym (ap (λ o. length o.todo) (replaced_other p q new s.own ne)));
      }
    where
      by : (f : Own V → ℕ) → f new ≡ f (s.own p) → (q : ℕ) → f (replaced p new s.own q) ≡ f (s.own q)
      by f same q = pick (cases_eq q p)
        where
          pick : (q ≡ p) ⊎ (q ≢ p) → f (replaced p new s.own q) ≡ f (s.own q)
          pick (inl e) = ap (λ r. f (replaced p new s.own r)) e ∙ ap f (replaced_here p new s.own) ∙ same ∙ ap (λ r. f (s.own r)) (sym e)
          pick (inr ne) = ap f (replaced_other p q new s.own ne)
