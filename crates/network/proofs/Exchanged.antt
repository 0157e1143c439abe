-- The pair's complete list, and where it ends.
use Rattle.std.proofs.Common.{◌≡◌, ℕ, zero, suc, Bool, List, [], ◌∷◌, get_or, None, sym, refl, ap, ◌∙◌, arith}
use Rattle.std.proofs.Math.ListN.{get_or-map}
use Rattle.network.specs.Network.{State}
use Rattle.network.specs.Request.{joined, without_oldest, taking, able, decide, replaced, changed, moved, answer, leaves, request}
use Rattle.network.specs.Runs.{state_after, Complete, AllEnded}
use Rattle.network.specs.Slots.{one_way, held_by}
use Rattle.network.specs.Desks.{desk, owns, letters}
use Rattle.network.specs.declared.desk.Desk.{Desk}
use Rattle.network.specs.Exchange.{partner, exchanging, exchange, exchange_state}
use Rattle.network.specs.declared.pair.Phase.TheVariants.{Putting, Done}
use Rattle.network.specs.declared.pair.Partner.{Partner}
use Rattle.network.specs.Drivers.{WentRound}

abbrev pub start : ℕ → ℕ → State ℕ Partner
start first second = exchange_state (partner Putting first ∷ partner Putting second ∷ []) (None ∷ None ∷ [])

abbrev pub turns : List ℕ
turns = 0 ∷ 1 ∷ 0 ∷ 1 ∷ []

exchange_completes : (first second : ℕ) → Complete (request exchange 1) 2 (start first second) turns
unfolding state_after request decide able taking answer leaves moved replaced changed joined without_oldest held_by one_way exchange exchanging
exchange_completes first second = record { runs = (refl, (refl, (refl, (refl, tt)))); ends_all = each }
  where
    each : AllEnded (request exchange 1) 2 (state_after (request exchange 1) (start first second) turns)
    each zero h = refl
    each (suc zero) h = refl
    each (suc (suc p)) h = absurd (omega arith)

pub exchange_ends : (first second : ℕ)
    → ((state_after (request exchange 1) (start first second) turns).own 0 ≡ partner Done second)
    × ((state_after (request exchange 1) (start first second) turns).own 1 ≡ partner Done first)
unfolding state_after request decide able taking answer leaves moved replaced changed joined without_oldest held_by one_way exchange exchanging
exchange_ends first second = (refl, refl)

-- The same of desks that are the start by an equation, and what a driver then leaves.
pub completes : (desks : List (Desk Partner)) (first second : ℕ)
    → desks ≡ desk (partner Putting first) None ∷ desk (partner Putting second) None ∷ []
    → Complete (request exchange 1) 2 (exchange_state (owns desks) (letters desks)) turns
completes desks first second e = rw e (exchange_completes first second)

pub both_exchanged : {desks : List (Desk Partner)} {first second : ℕ} {told : Bool} (desks' : List (Desk Partner))
    → desks ≡ desk (partner Putting first) None ∷ desk (partner Putting second) None ∷ []
    → WentRound exchange 1 (exchange_state (owns desks) (letters desks)) (exchange_state (owns desks') (letters desks')) told
    → ((get_or desks' 0 (desk (partner Putting 0) None)).own.value ≡ second) × ((get_or desks' 1 (desk (partner Putting 0) None)).own.value ≡ first)
unfolding exchange held_by
both_exchanged {desks} {first} {second} {told} desks' e went =
    let begun : WentRound exchange 1 (start first second) (exchange_state (owns desks') (letters desks')) told = rw e at went in
    let there = (begun.reaches_end 1 turns (omega arith) (exchange_completes first second)).1 in
    let ends = exchange_ends first second in
    let idle = desk (partner Putting 0) None in (
      ap (λ x. x.value) (sym (get_or-map (λ d. d.own) desks' 0 idle) ∙ ap (λ s. s.own 0) there ∙ ends.0),
      ap (λ x. x.value) (sym (get_or-map (λ d. d.own) desks' 1 idle) ∙ ap (λ s. s.own 1) there ∙ ends.1),
    )
