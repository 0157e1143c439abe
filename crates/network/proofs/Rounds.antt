-- Round after round in turn, and the round in which no board ran.
use Rattle.std.proofs.Common.{◌≡◌, ℕ, suc, Bool, true, eqb, List, sym, refl, ap, ◌∙◌, subst, arith}
use Rattle.std.proofs.lemmas.Bool.{eqb-true, eq-eqb}
use Rattle.network.specs.Network.{State}
use Rattle.network.specs.Fixed.{Fixed, asks}
use Rattle.network.specs.Runs.{state_after, steps_run, CameTo, AllEnded, in_turn, repeated}
use Rattle.network.specs.Drivers.{LedByAny, WentRound}
use Rattle.network.proofs.Asking.{state_after_++, in_turn_names, quiet_tells}
use Rattle.network.proofs.Moves.{request_stays}
use Rattle.network.proofs.Theorems.{deeper_rows_same_end, quiet_round_is_end}

pub led_by_any : {L S : Type 0} (f : Fixed L S) (s : State L S) (requests : List ℕ) → LedByAny f.network f.depth s requests
led_by_any {L} {S} f s requests shallower list le whole =
    (deeper_rows_same_end L S f.network shallower f.depth s list le whole).led requests

-- A round that was asked of boards which are still what they were.
came_at : {L S : Type 0} {f f' : Fixed L S} {t u : State L S} {ran ended : ℕ} → f' ≡ f
    → CameTo (asks f') t (in_turn f'.network.boards) ran ended u → CameTo (asks f) t (in_turn f.network.boards) ran ended u
came_at e c = rw (← e) c

module _ {L S : Type 0} (f : Fixed L S) (s : State L S) where
  abbrev round : List ℕ
  round = in_turn f.network.boards

  -- so many rounds lead from s to t
  abbrev pub RoundsTo : State L S → Type 0
  RoundsTo t = (k : ℕ) × (t ≡ state_after (asks f) s (repeated k round))

  pub no_round : RoundsTo s
  unfolding repeated state_after
  no_round = (0, refl)

  pub one_more_round : {f' : Fixed L S} {t u : State L S} {ran ended : ℕ} → RoundsTo t → f' ≡ f
      → CameTo (asks f') t (in_turn f'.network.boards) ran ended u → RoundsTo u
  unfolding repeated
  one_more_round (k, e) same c =
      (suc k, (came_at same c).left_state ∙ ap (λ x. state_after (asks f) x round) e ∙ sym (state_after_++ (asks f) (repeated k round) round s))

  -- the round in which none ran
  quiet_at : (t : State L S) (ran ended : ℕ) → RoundsTo t → CameTo (asks f) t round ran ended t
      → ran ≡ 0 → WentRound f.network f.depth s t (eqb ended f.network.boards)
  quiet_at t ran ended rounds c none =
      let silent : steps_run (asks f) t round ≡ 0 = omega (arith, c.steps, none) in
      let q = quiet_tells (asks f) (request_stays f.network f.depth) t f.network.boards silent in
      let say : AllEnded (asks f) f.network.boards t → eqb ended f.network.boards ≡ true =
      λ all. eq-eqb ended f.network.boards (c.ends ∙ q.all_say all)
      in
      let asked = repeated rounds.0 round in
      let silent-there = rw rounds.1 at silent in
      record {
        rounds = rounds;
        quiet = silent;
        told = (λ e. q.all_said (sym c.ends ∙ eqb-true ended f.network.boards e), say);
        reaches_end = λ shallower list le whole.
            let All-there = quiet_round_is_end L S f.network shallower f.depth s list le whole asked round (in_turn_names f.network.boards) silent-there in
            (say (rw rounds.1 All-there), rounds.1 ∙ ((deeper_rows_same_end L S f.network shallower f.depth s list le whole).led asked).one_end All-there);
      }

  pub went_round : {f' : Fixed L S} {t u : State L S} {ran ended : ℕ} (told : Bool) → RoundsTo t → f' ≡ f
      → CameTo (asks f') t (in_turn f'.network.boards) ran ended u
      → ran ≡ 0 → told ≡ eqb ended f.network.boards → WentRound f.network f.depth s u told
  went_round {t = t} {u = u} {ran = ran} {ended = ended} told rounds same came none tells =
      let c = came_at same came in
      let silent : steps_run (asks f) t round ≡ 0 = omega (arith, c.steps, none) in
      let stays : t ≡ u = sym (c.left_state ∙ (quiet_tells (asks f) (request_stays f.network f.depth) t f.network.boards silent).unchanged) in
      let at_rest = rw stays at c in
      rw tells (quiet_at u ran ended (subst RoundsTo stays rounds) at_rest none)
