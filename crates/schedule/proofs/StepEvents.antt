-- A board runs its next step where the event can happen on one memory: boards and memory stay tied. Assumes nothing.
use Rattle.std.proofs.Common.{◌≡◌, ℕ, ◌+◌, ◌<◌, ◌≢◌, List, [], ◌∷◌, length, sym, refl, ap, ◌∙◌, ap₂, arith}
use Rattle.sections.specs.Order.{Element}
use Rattle.sequential.specs.Run.{Setting}
use Rattle.network.specs.Network.{State, goes_on}
use Rattle.network.specs.Request.{replaced, changed, joined, without_oldest}
use Rattle.network.proofs.Moves.{replaced_other}
use Rattle.network.proofs.Rules as rule
use Rattle.compiler.specs.Deeds.{Deed, rests, ships, holds, adds_own, adds_taken, stores}
use Rattle.schedule.specs.Boards.{Own, written, coefficient_of, with_term, stepped, next_of, boards_that}
use Rattle.schedule.specs.Memory.{Memory, add_taken, happens, Can, AtHome}
use Rattle.schedule.specs.Start.{Tied}
use Rattle.schedule.specs.Laws.{puts_in, takes_in}
use Rattle.schedule.proofs.TiedStates.{replaced_here, rows_left, keeps, writes, has}
use Rattle.schedule.proofs.BoardSteps.{Went, one_step}

-- requests to board p alone lead to a state in which it has `rest` to do, tied to memory m
pub record Came {V : Type 0} (k : Setting V) (boards depth : ℕ) (Here : Element → Type 0) (owner : Element → ℕ)
    (s : State V (Own V)) (p : ℕ) (rest : List Deed) (m : Memory V) : Type 0 where
  pub to : State V (Own V)
  pub list : List ℕ
  pub went : Went k boards depth s to list
  pub tied : Tied Here owner to m
  pub here : (to.own p).todo ≡ rest
  pub others : (q : ℕ) → q ≢ p → to.own q ≡ s.own q

module _ {V : Type 0} (k : Setting V) (boards depth : ℕ) (Here : Element → Type 0) (owner : Element → ℕ)
    (s : State V (Own V)) (m : Memory V) (p : ℕ) (rest : List Deed) (inside : p < boards) (tied : Tied Here owner s m)
  where
    -- a step that goes on alone
    alone : (d : Deed) (elements held : Element → V) → (s.own p).todo ≡ d ∷ rest → puts_in d ≡ 0 → takes_in d ≡ 0
        → next_of k (s.own p) (d ∷ rest) ≡ goes_on (stepped (s.own p) elements held rest 0 0) → (values : Memory V)
        → ((e : Element) → Here e → (replaced p (stepped (s.own p) elements held rest 0 0) s.own (owner e)).elements e ≡ values.elements e)
        → ((e : Element) → Here e → (replaced p (stepped (s.own p) elements held rest 0 0) s.own (owner e)).held e ≡ values.held e)
        → m.row ≡ values.row
        → Came k boards depth Here owner s p rest values
    alone d elements held now no-put no-take next values a b c =
        let new : Own V = stepped (s.own p) elements held rest 0 0 in
        let asked = rule.ran_alone (boards_that k boards) depth s p new inside (ap (next_of k (s.own p)) now ∙ next) in
        record {
          to = record { own = replaced p new s.own; row = changed p p (λ r. r) s.row };
          list = p ∷ [];
          went = one_step k boards depth s p d rest new (changed p p (λ r. r) s.row) inside now refl refl (ap (λ n. (s.own p).put + n) (sym no-put)) (ap (λ n. (s.own p).taken + n) (sym no-take)) asked;
          tied = record { elements = a; held = b; rows = rows_left p p s.row ∙ tied.rows ∙ c };
          here = ap (λ o. o.todo) (replaced_here p new s.own);
          others = λ q ne. replaced_other p q new s.own ne;
        }

    -- a letter is put
    put : (q : ℕ) (e : Element) → (s.own p).todo ≡ ships q e ∷ rest → length (m.row p q) < depth → Here e → owner e ≡ p
        → Came k boards depth Here owner s p rest (happens k m p (ships q e))
    unfolding next_of happens
    put q e now room there mine =
        let new : Own V = stepped (s.own p) (s.own p).elements (s.own p).held rest 1 0 in
        let room' : length (s.row p q) < depth = omega (arith, ap (λ r. length (r p q)) tied.rows) in
        let row = changed p q (joined ((s.own p).elements e)) s.row in
        let asked = rule.put_ran (boards_that k boards) depth s p q ((s.own p).elements e) new inside (ap (next_of k (s.own p)) now) room' in
        let letter = has Here owner s.own p new (λ o. o.elements) m.elements tied.elements e there mine in
        record {
          to = record { own = replaced p new s.own; row = row };
          list = p ∷ [];
          went = one_step k boards depth s p (ships q e) rest new row inside now refl refl refl refl asked;
          tied = record {
            elements = keeps Here owner s.own p new (λ o. o.elements) m.elements tied.elements refl;
            held = keeps Here owner s.own p new (λ o. o.held) m.held tied.held refl;
            rows = ap₂ (λ v r. changed p q (joined v) r) letter tied.rows;
          };
          here = ap (λ o. o.todo) (replaced_here p new s.own);
          others = λ r ne. replaced_other p r new s.own ne;
        }

    -- a letter is taken
    take : (c q : ℕ) (e : Element) → (s.own p).todo ≡ adds_taken c q e ∷ rest → Here e → owner e ≡ p → (row : List V) → m.row q p ≡ row → 0 < length row
        → Came k boards depth Here owner s p rest (add_taken k m p c q e row)
    unfolding next_of add_taken
    take c q e now there mine [] waits some = absurd (omega arith)
    take c q e now there mine (letter ∷ more) waits some =
        let go : V → Own V = λ v. stepped (s.own p) (s.own p).elements (written e (with_term k c v ((s.own p).held e)) (s.own p).held) rest 0 1 in
        let new : Own V = go letter in
        let row = changed q p without_oldest s.row in
        let asked = rule.take_ran (boards_that k boards) depth s p q go letter more inside (ap (next_of k (s.own p)) now) (ap (λ r. r q p) tied.rows ∙ waits) in
        let before = has Here owner s.own p new (λ o. o.held) m.held tied.held e there mine in
        record {
          to = record { own = replaced p new s.own; row = row };
          list = p ∷ [];
          went = one_step k boards depth s p (adds_taken c q e) rest new row inside now refl refl refl refl asked;
          tied = record {
            elements = keeps Here owner s.own p new (λ o. o.elements) m.elements tied.elements refl;
            held = writes Here owner s.own p new (λ o. o.held) m.held tied.held e _ _ there mine refl (ap (with_term k c letter) before);
            rows = ap (changed q p without_oldest) tied.rows;
          };
          here = ap (λ o. o.todo) (replaced_here p new s.own);
          others = λ r ne. replaced_other p r new s.own ne;
        }

    -- any step
    pub runs_next : (d : Deed) → (s.own p).todo ≡ d ∷ rest → Can depth m p d → AtHome Here owner p d
        → Came k boards depth Here owner s p rest (happens k m p d)
    unfolding next_of happens
    runs_next rests now can home =
        let new : Own V = stepped (s.own p) (s.own p).elements (s.own p).held rest 0 0 in
        alone rests (s.own p).elements (s.own p).held now refl refl refl m
        (keeps Here owner s.own p new (λ o. o.elements) m.elements tied.elements refl)
        (keeps Here owner s.own p new (λ o. o.held) m.held tied.held refl) refl
    runs_next (ships q e) now can home = put q e now can home.0 home.1
    runs_next (holds c e) now can home =
        let held = written e (coefficient_of k c) (s.own p).held in
        let new : Own V = stepped (s.own p) (s.own p).elements held rest 0 0 in
        alone (holds c e) (s.own p).elements held now refl refl refl (happens k m p (holds c e))
        (keeps Here owner s.own p new (λ o. o.elements) m.elements tied.elements refl)
        (writes Here owner s.own p new (λ o. o.held) m.held tied.held e (coefficient_of k c) (coefficient_of k c) home.0 home.1 refl refl) refl
    runs_next (adds_own c r e) now can home =
        let held = written e (with_term k c ((s.own p).elements r) ((s.own p).held e)) (s.own p).held in
        let new : Own V = stepped (s.own p) (s.own p).elements held rest 0 0 in
        let term = has Here owner s.own p new (λ o. o.elements) m.elements tied.elements r home.0 home.1 in
        let before = has Here owner s.own p new (λ o. o.held) m.held tied.held e home.2 home.3 in
        alone (adds_own c r e) (s.own p).elements held now refl refl refl (happens k m p (adds_own c r e))
        (keeps Here owner s.own p new (λ o. o.elements) m.elements tied.elements refl)
        (writes Here owner s.own p new (λ o. o.held) m.held tied.held e _ _ home.2 home.3 refl (ap₂ (with_term k c) term before)) refl
    runs_next (adds_taken c q e) now can home = take c q e now home.0 home.1 (m.row q p) refl can
    runs_next (stores e) now can home =
        let elements = written e ((s.own p).held e) (s.own p).elements in
        let new : Own V = stepped (s.own p) elements (s.own p).held rest 0 0 in
        let value = has Here owner s.own p new (λ o. o.held) m.held tied.held e home.0 home.1 in
        alone (stores e) elements (s.own p).held now refl refl refl (happens k m p (stores e))
        (writes Here owner s.own p new (λ o. o.elements) m.elements tied.elements e _ _ home.0 home.1 refl value)
        (keeps Here owner s.own p new (λ o. o.held) m.held tied.held refl) refl
