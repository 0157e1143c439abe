-- What a driver's loops keep, over plain values: what boards are, and what the requests to them came to.
use Rattle.std.proofs.Common.{◌≡◌, ℕ, ◌+◌, ◌≤◌, List, [], ◌∷◌, ◌++◌, refl, ap, ◌∙◌, add-one, arith}
use Rattle.network.specs.Network.{State}
use Rattle.network.specs.Fixed.{Fixed, asks}
use Rattle.network.specs.Runs.{Asked, is_ran, is_ended, CameTo, in_turn}
use Rattle.network.specs.declared.answer.Answer.{Answer}
use Rattle.network.proofs.Asking.{came_to_none, came_to_more}

-- What boards are, their state and the steps left at the start, and now; the requests asked in between and their tally.
pub record Going {L S : Type 0} (f f' : Fixed L S) (s t : State L S) (left left' : ℕ) (asked : List ℕ) (ran ended count : ℕ) : Type 0 where
  pub same : f' ≡ f
  pub came : CameTo (asks f) s asked ran ended t
  pub fewer : ran + left' ≤ left
  pub few_ran : ran ≤ count
  pub few_ended : ended ≤ count

pub going_start : {L S : Type 0} (f : Fixed L S) (s : State L S) (left : ℕ) {ran ended : ℕ} → ran ≡ 0 → ended ≡ 0 → Going f f s s left left [] ran ended 0
going_start f s left {ran} {ended} r e = record {
  same = refl;
  came = rw (r, e) (came_to_none (asks f) s);
  fewer = omega (arith, r);
  few_ran = omega (arith, r);
  few_ended = omega (arith, e);
}

at_most_one : (a : Answer) → (is_ran a ≤ 1) × (is_ended a ≤ 1)
at_most_one Answer.Ran = (omega arith, omega arith)
at_most_one _ = (omega arith, omega arith)

-- One more request, to board p, answered by a.
pub going_more : {L S : Type 0} {f f' f'' : Fixed L S} {s t u : State L S} {left left' : ℕ} (left'' : ℕ) {asked asked' : List ℕ}
    {ran ended ran' ended' count : ℕ} (p : ℕ) (a : Answer) → Going f f' s t left left' asked ran ended count
    → (a, u) ≡ asks f' t p → f'' ≡ f' → is_ran a + left'' ≤ left'
    → ran' ≡ ran + is_ran a → ended' ≡ ended + is_ended a → asked' ≡ asked ++ p ∷ []
    → Going f f'' s u left left'' asked' ran' ended' (count + 1)
going_more {f = f} {s = s} {t = t} {u = u} left'' {asked = asked} {ran = ran} {ended = ended} p a g e same l r n more =
    let one = at_most_one a in
    let asked-there = e ∙ ap (λ x. asks x t p) g.same in
    record {
      same = same ∙ g.same;
      came = rw (r, n, more) (came_to_more (asks f) s t u asked ran ended p a g.came asked-there);
      fewer = omega (arith, g.fewer);
      few_ran = omega (arith, g.few_ran, one.0);
      few_ended = omega (arith, g.few_ended, one.1);
    }

pub in_turn_more : (n : ℕ) → in_turn (n + 1) ≡ in_turn n ++ n ∷ []
unfolding in_turn
in_turn_more n = rw add-one refl

-- What a list of requests came to, under another name of the list.
pub came_as : {X : Type 0} {ask : Asked X} {s t : X} {asked asked' : List ℕ} {ran ended : ℕ}
    → CameTo ask s asked ran ended t → asked ≡ asked' → CameTo ask s asked' ran ended t
came_as c e = rw (← e) c
