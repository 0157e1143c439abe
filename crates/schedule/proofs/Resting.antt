-- Steps that do nothing: a board runs those before its next piece of work, and all boards run those that are left at the end. Assumes nothing.
use Rattle.std.proofs.Common.{◌≡◌, ℕ, zero, suc, ◌<◌, ◌≤◌, ◌≢◌, ◌⊎◌, List, [], ◌∷◌, ◌++◌, refl, ap, ◌∙◌, inl, inr, arith}
use Rattle.std.proofs.lemmas.Bool.{cases_eq}
use Rattle.sections.specs.Order.{Element}
use Rattle.sequential.specs.Run.{Setting}
use Rattle.network.specs.Network.{State}
use Rattle.compiler.specs.Deeds.{Deed, rests, working}
use Rattle.schedule.specs.Boards.{Own}
use Rattle.schedule.specs.Memory.{Memory, happens}
use Rattle.schedule.specs.Start.{Tied}
use Rattle.schedule.proofs.BoardSteps.{Went, went_nowhere, went_on}
use Rattle.schedule.proofs.StepEvents.{Came, runs_next}

-- what is left of a list of steps when those that do nothing are run first
abbrev pub rested : List Deed → List Deed
rested (rests ∷ xs) = rested xs
rested xs = xs

-- where there is no work, nothing is left
pub nothing_left : (xs : List Deed) → working xs ≡ [] → rested xs ≡ []
nothing_left [] e = refl
nothing_left (rests ∷ xs) e = nothing_left xs e
nothing_left (d ∷ xs) e = cc

-- otherwise the first piece of work comes next
pub work_next : (xs : List Deed) (d : Deed) (ds : List Deed) → working xs ≡ d ∷ ds → (rest : List Deed) × (rested xs ≡ d ∷ rest) × (working rest ≡ ds)
work_next [] d ds e = absurd cc
work_next (rests ∷ xs) d ds e = work_next xs d ds e
work_next (x ∷ xs) d ds e = (xs, cc, cc)

module _ {V : Type 0} {k : Setting V} {boards depth : ℕ} {Here : Element → Type 0} {owner : Element → ℕ} where
  -- one board goes on after it went on
  pub came_on : {s : State V (Own V)} {p : ℕ} {xs ys : List Deed} {m n : Memory V} (a : Came k boards depth Here owner s p xs m)
      → Came k boards depth Here owner a.to p ys n → Came k boards depth Here owner s p ys n
  came_on a b =
      record { to = b.to; list = a.list ++ b.list; went = went_on a.went b.went; tied = b.tied; here = b.here; others = λ q ne. b.others q ne ∙ a.others q ne }

  -- nothing is asked
  stays : {s : State V (Own V)} {p : ℕ} {xs : List Deed} {m : Memory V} → Tied Here owner s m → (s.own p).todo ≡ xs → Came k boards depth Here owner s p xs m
  stays {s} tied now = record { to = s; list = []; went = went_nowhere; tied = tied; here = now; others = λ _ _. refl }

module _ {V : Type 0} (k : Setting V) (boards depth : ℕ) (Here : Element → Type 0) (owner : Element → ℕ) where
  -- one board runs the steps that do nothing, up to its next piece of work
  pub rests_first : (xs : List Deed) (s : State V (Own V)) (p : ℕ) (m : Memory V) → p < boards → Tied Here owner s m → (s.own p).todo ≡ xs
      → Came k boards depth Here owner s p (rested xs) m
  unfolding happens
  rests_first (rests ∷ xs) s p m inside tied now =
      let first = runs_next k boards depth Here owner s m p xs inside tied rests now tt tt in
      came_on first (rests_first xs first.to p m inside first.tied first.here)
  rests_first xs s p m inside tied now = stays tied now

  -- requests lead to a state tied to memory m, in which the boards below a count have nothing to do
  pub record EndedBelow (s : State V (Own V)) (m : Memory V) (count : ℕ) : Type 0 where
    pub to : State V (Own V)
    pub list : List ℕ
    pub went : Went k boards depth s to list
    pub tied : Tied Here owner to m
    pub below : (p : ℕ) → p < count → (to.own p).todo ≡ []
    pub above : (p : ℕ) → count ≤ p → to.own p ≡ s.own p

  -- the boards run what is left, one after the other
  pub all_rest : (count : ℕ) (s : State V (Own V)) (m : Memory V) → count ≤ boards → Tied Here owner s m
      → ((p : ℕ) → p < boards → working (s.own p).todo ≡ []) → EndedBelow s m count
  all_rest zero s m few tied idle =
      record { to = s; list = []; went = went_nowhere; tied = tied; below = λ p h. absurd (omega arith); above = λ _ _. refl }
  all_rest (suc n) s m few tied idle =
      let before = all_rest n s m (omega arith) tied idle in
      let same = before.above n (omega arith) in
      let last = rests_first (before.to.own n).todo before.to n m (omega arith) before.tied refl in
      let done : (last.to.own n).todo ≡ [] = last.here ∙ ap (λ o. rested o.todo) same ∙ nothing_left (s.own n).todo (idle n (omega arith)) in
      record {
        to = last.to;
        list = before.list ++ last.list;
        went = went_on before.went last.went;
        tied = last.tied;
        below = λ p h. ended p h last.to done (λ ne. ap (λ o. o.todo) (last.others p ne)) (before.below p);
        above = λ p h. last.others p (omega arith) ∙ before.above p (omega arith);
      }
    where
      ended : (p : ℕ) → p < suc n → (t : State V (Own V)) → (t.own n).todo ≡ [] → {xs : List Deed} → (p ≢ n → (t.own p).todo ≡ xs) → (p < n → xs ≡ []) → (t.own p).todo ≡ []
      ended p h t done {xs} other earlier = pick (cases_eq p n)
        where
          pick : (p ≡ n) ⊎ (p ≢ n) → (t.own p).todo ≡ []
          pick (inl e) = ap (λ q. (t.own q).todo) e ∙ done
          pick (inr ne) = other ne ∙ earlier (omega arith)
