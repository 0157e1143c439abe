-- Events that can happen on one memory are carried out by boards, each with its own memory. Assumes nothing.
use Rattle.std.proofs.Common.{◌≡◌, ℕ, ◌<◌, cond, eqb, ◌≢◌, ◌⊎◌, List, [], ◌∷◌, ◌++◌, map, length, sum_by, filter, sym, refl, ap, ◌∙◌, subst, inl, inr, arith}
use Rattle.std.proofs.lemmas.Bool.{cases_eq, eq-eqb, ne_eqb}
use Rattle.sections.specs.Order.{Element}
use Rattle.sections.proofs.Sums.{sum_like, sum_none}
use Rattle.sequential.specs.Laws.{In}
use Rattle.sequential.specs.Run.{Setting}
use Rattle.network.specs.Network.{State}
use Rattle.compiler.specs.Deeds.{Deed, working}
use Rattle.compiler.proofs.ListSums.{sums_below}
use Rattle.schedule.specs.Boards.{Own}
use Rattle.schedule.specs.Memory.{Event, Memory, after_event, after_events, AllCan, AtHome, share_of}
use Rattle.schedule.specs.Start.{There, Tied}
use Rattle.schedule.specs.Laws.{puts_in, takes_in, CarriedOut, EventsAreCarriedOut}
use Rattle.schedule.proofs.BoardSteps.{went_on, steps_left}
use Rattle.schedule.proofs.StepEvents.{Came, runs_next}
use Rattle.schedule.proofs.Resting.{work_next, came_on, rests_first, EndedBelow, all_rest}

-- the first event is of the share of its own board, and of no other
pub share_here : (ev : Event) (events : List Event) → share_of ev.0 (ev ∷ events) ≡ ev.1 ∷ share_of ev.0 events
share_here ev events =
    let kept = filter (λ x. eqb x.0 ev.0) events in
    ap (λ b. map (λ x. x.1) (cond b (ev ∷ kept) kept)) (eq-eqb ev.0 ev.0 refl)

pub share_other : (p : ℕ) (ev : Event) (events : List Event) → p ≢ ev.0 → share_of p (ev ∷ events) ≡ share_of p events
share_other p ev events ne =
    let kept = filter (λ x. eqb x.0 p) events in
    ap (λ b. map (λ x. x.1) (cond b (ev ∷ kept) kept)) (ne_eqb ev.0 p (λ e. ne (sym e)))

module _ {V : Type 0} (k : Setting V) (boards depth : ℕ) (Here : Element → Type 0) (owner : Element → ℕ) where
  -- each board's share of some events is its work
  abbrev Shared : State V (Own V) → List Event → Type 0
  Shared s events = (p : ℕ) → p < boards → share_of p events ≡ working (s.own p).todo

  -- each event is of a board that there is, and touches only what belongs to it
  abbrev AllHome : List Event → Type 0
  AllHome events = (ev : Event) → In ev events → (ev.0 < boards) × AtHome Here owner ev.0 ev.1

  -- an event: its board runs the steps before it that do nothing, then the event's
  one_event : (s : State V (Own V)) (m : Memory V) (ev : Event) (events : List Event) → Tied Here owner s m → AllCan k depth m (ev ∷ events)
      → AllHome (ev ∷ events) → Shared s (ev ∷ events)
      → (rest : List Deed) × Came k boards depth Here owner s ev.0 rest (after_event k m ev) × (working rest ≡ share_of ev.0 events)
  one_event s m ev events tied can home shared =
      let p = ev.0 in
      let inside : p < boards = (home ev (inl refl)).0 in
      let next = work_next (s.own p).todo ev.1 (share_of p events) (sym (shared p inside) ∙ share_here ev events) in
      let first = rests_first k boards depth Here owner (s.own p).todo s p m inside tied refl in
      let second = runs_next k boards depth Here owner first.to m p next.0 inside first.tied ev.1 (first.here ∙ next.1) can.0 (home ev (inl refl)).1 in
      (next.0, came_on first second, next.2)

  -- after an event the shares of the others are the work that is left
  still_shared : (s t : State V (Own V)) (ev : Event) (events : List Event) (rest : List Deed) → Shared s (ev ∷ events)
      → (t.own ev.0).todo ≡ rest → working rest ≡ share_of ev.0 events → ((q : ℕ) → q ≢ ev.0 → t.own q ≡ s.own q) → Shared t events
  still_shared s t ev events rest shared here left others p inside = pick (cases_eq p ev.0)
    where
      pick : (p ≡ ev.0) ⊎ (p ≢ ev.0) → share_of p events ≡ working (t.own p).todo
      pick (inl e) = ap (λ q. share_of q events) e ∙ sym left ∙ ap working (sym here) ∙ ap (λ q. working (t.own q).todo) (sym e)
      pick (inr ne) = sym (share_other p ev events ne) ∙ shared p inside ∙ ap (λ o. working o.todo) (sym (others p ne))

  -- all events, and then the steps that are left, which do nothing
  pub carried_to_end : (events : List Event) (s : State V (Own V)) (m : Memory V) → Tied Here owner s m → AllCan k depth m events → AllHome events → Shared s events
      → EndedBelow k boards depth Here owner s (after_events k m events) boards
  carried_to_end [] s m tied can home shared =
      all_rest k boards depth Here owner boards s m (omega arith) tied (λ p inside. sym (shared p inside))
  carried_to_end (ev ∷ events) s m tied can home shared =
      let (rest, came, left) = one_event s m ev events tied can home shared in
      let inside : ev.0 < boards = (home ev (inl refl)).0 in
      let later = carried_to_end events came.to (after_event k m ev) came.tied can.1 (λ x i. home x (inr i)) (still_shared s came.to ev events rest shared came.here left came.others) in
      record {
        to = later.to;
        list = came.list ++ later.list;
        went = went_on came.went later.went;
        tied = later.tied;
        below = later.below;
        above = λ p far. later.above p far ∙ came.others p (omega arith);
      }

  -- boards that have nothing to do have no steps left
  no_steps_left : (t : State V (Own V)) → ((p : ℕ) → p < boards → (t.own p).todo ≡ []) → steps_left boards t ≡ 0
  no_steps_left t ended =
      sums_below (λ p. length (t.own p).todo) boards
      ∙ sum_like (λ p. length (t.own p).todo) (λ _. 0) boards (λ p inside. ap length (ended p inside)) ∙ sum_none boards

  -- what the boards ran, put and took is then all that they had to
  pub carried_out_by : (s : State V (Own V)) (m : Memory V) (end : EndedBelow k boards depth Here owner s m boards) → CarriedOut k boards depth Here owner s end.list m
  carried_out_by s m end =
      let leads = end.went.leads in
      let ended = end.below in
      record {
        runs = end.went.runs;
        tied = subst (λ (x : State V (Own V)). Tied Here owner x m) (sym leads) end.tied;
        todo = λ p inside. ap (λ x. (x.own p).todo) leads ∙ ended p inside;
        ran = λ p inside. ap (λ x. (x.own p).ran) leads ∙ omega (arith, end.went.ran p, ap length (ended p inside));
        put = λ p inside. ap (λ x. (x.own p).put) leads ∙ omega (arith, end.went.put p, ap (sum_by puts_in) (ended p inside));
        taken = λ p inside. ap (λ x. (x.own p).taken) leads ∙ omega (arith, end.went.taken p, ap (sum_by takes_in) (ended p inside));
        long = omega (arith, end.went.long, no_steps_left end.to ended);
      }

pub events_are_carried_out : (V : Type 0) → EventsAreCarriedOut V
events_are_carried_out V k boards depth owner s m events tied can home shared =
    let end = carried_to_end k boards depth (There k.arrays) owner events s m tied can home shared in
    (end.list, carried_out_by k boards depth (There k.arrays) owner s (after_events k m events) end)
