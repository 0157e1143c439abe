-- The cases of a request to the ring.
use Rattle.std.proofs.Common.{◌≡◌, ℕ, suc, ◌+◌, ◌-◌, ◌<◌, ◌≤◌, Bool, true, false, ◌≢◌, List, [], ◌∷◌, length, length-set, get_or, set, sym, refl, ap, ◌∙◌, arith}
use lib.ListN.{length-replicate, replicate-append-replicate}
use Rattle.std.proofs.lemmas.Bool.Decides.{nat_tests}
use Rattle.network.specs.Network.{Network, State}
use Rattle.network.specs.Drivers.{WentRound}
use Rattle.network.specs.Request.{joined}
use Rattle.network.specs.Ringing.{seat, board_after, board_before, ringing, ring_of, so_many, ring_state, seat_left, ring_left}
use Rattle.network.specs.declared.answer.Answer.{Answer}
use Rattle.network.specs.declared.answer.Answer.TheVariants.{Ran, Waiting, Ended, Refused}
use Rattle.network.specs.declared.ring.Ring.{Ring}
use Rattle.network.specs.declared.ring.Seat.{Seat}
use Rattle.network.proofs.Kept as kept
use Rattle.network.proofs.Kept.{Answered, Way}

round_the_ring : (count p : ℕ) → p < count → p ≡ board_after count (board_before count p)
round_the_ring count p h = grind (arith, nat_tests)

before_inside : (count p : ℕ) → p < count → board_before count p < count
before_inside count p h = grind (arith, nat_tests)

one_more : (n : ℕ) → so_many (n + 1) ≡ joined tt (so_many n)
unfolding joined
one_more n = sym (replicate-append-replicate n 1 (tt {0}))

one_less : (n : ℕ) → n ≢ 0 → so_many n ≡ tt ∷ so_many (n - 1)
one_less n some = let e : n ≡ suc (n - 1) = omega arith in ap so_many e

abbrev pub ring_way : ℕ → ℕ → List ℕ → Way (Unit {0}) Seat ℕ
ring_way count depth lent = record {
  fixed = record { network = ring_of count; depth = depth; lent = lent };
  to = board_after count;
  letters = so_many;
  idle = seat 0 false;
  empty = 0;
  weight = seat_left;
}

module _ (x : Ring) (p : ℕ) where
  abbrev count : ℕ
  count = length x.seats.now

  abbrev way : ℕ → Way (Unit {0}) Seat ℕ
  way n = ring_way n x.depth (x.seats.ghost_name ∷ x.tokens.ghost_name ∷ [])

  -- what is read of board p, and of the tokens on the way
  abbrev at : Seat
  at = get_or x.seats.now p (seat 0 false)

  abbrev on_way : ℕ → ℕ
  on_way q = get_or x.tokens.now q 0

  -- A request to board p was answered by a, and left the lists seats and tokens.
  abbrev pub Left : Answer → List Seat → List ℕ → Type 0
  Left a seats tokens =
      Answered (way count).fixed (way (length seats)).fixed (ring_state count x.seats.now x.tokens.now) (ring_left x.seats.now) p a (ring_state (length seats) seats tokens) (ring_left seats)

  -- the same, under other names of the lists
  pub told : {a : Answer} {seats seats' : List Seat} {tokens tokens' : List ℕ} → Left a seats tokens → seats' ≡ seats → tokens' ≡ tokens → Left a seats' tokens'
  told l e f = rw (e, f) l

  -- the seat of board p was written
  written : (s : Seat) (tokens : List ℕ) → kept.Left (way count) x.seats.now x.tokens.now p Ran (set x.seats.now p s) tokens → Left Ran (set x.seats.now p s) tokens
  written s tokens l = rw (length-set x.seats.now p s) l

  pub refused : count ≤ p → Left Refused x.seats.now x.tokens.now
  unfolding ring_of
  refused outside = kept.refused (way count) x.seats.now x.tokens.now p outside

  module _ (inside : p < count) where
    pub ended : at.laps ≡ 0 → Left Ended x.seats.now x.tokens.now
    unfolding ring_of
    ended none =
        kept.ended (way count) x.seats.now x.tokens.now p inside (grind (arith, nat_tests))

    next_is : (b : Bool) → at.laps ≢ 0 → at.holds ≡ b → (ring_of count).next p at ≡ ringing count p at.laps b
    unfolding ring_of
    next_is b some e = grind (arith, nat_tests)

    pub put_waits : at.laps ≢ 0 → at.holds ≡ true → x.depth ≤ on_way p → Left Waiting x.seats.now x.tokens.now
    unfolding ring_of ringing
    put_waits some e full =
        kept.put_waits (way count) x.seats.now x.tokens.now p inside tt (seat (at.laps - 1) false) (next_is true some e) (omega (arith, length-replicate (on_way p) (tt {0})))

    pub put_ran : at.laps ≢ 0 → at.holds ≡ true → on_way p < x.depth → Left Ran (set x.seats.now p (seat (at.laps - 1) false)) (set x.tokens.now p (on_way p + 1))
    unfolding ring_of ringing
    put_ran some e room =
        written _ _ (kept.put_ran (way count) x.seats.now x.tokens.now p inside (omega arith) tt (seat (at.laps - 1) false) (on_way p + 1) (omega (arith, x.level)) (next_is true some e) (omega (arith, length-replicate (on_way p) (tt {0}))) (one_more (on_way p)) (rw e (omega arith)))

    module _ (from : ℕ) (before : from ≡ board_before count p) where
      there : p ≡ board_after count from
      there = round_the_ring count p inside ∙ ap (board_after count) (sym before)

      pub take_waits : at.laps ≢ 0 → at.holds ≡ false → on_way from ≡ 0 → Left Waiting x.seats.now x.tokens.now
      unfolding ring_of ringing
      take_waits some e none =
          kept.take_waits (way count) x.seats.now x.tokens.now p inside from (λ _. seat at.laps true) (rw before (next_is false some e)) there (ap so_many none)

      pub take_ran : (rest : ℕ) → at.laps ≢ 0 → at.holds ≡ false → on_way from ≢ 0 → rest ≡ on_way from - 1
          → Left Ran (set x.seats.now p (seat at.laps true)) (set x.tokens.now from rest)
      unfolding ring_of ringing
      take_ran rest some e waits less =
          written _ _ (kept.take_ran (way count) x.seats.now x.tokens.now p inside (omega arith) from (λ _. seat at.laps true) tt (so_many rest) rest (omega (arith, before_inside count p inside, x.level)) (rw before (next_is false some e)) there (one_less (on_way from) waits ∙ ap (λ n. tt ∷ so_many n) (sym less)) refl (rw e (omega arith)))

-- The names of the two slices, out of the list of both.
pub first_same : {a b c d : ℕ} → a ∷ b ∷ [] ≡ c ∷ d ∷ [] → c ≡ a
first_same e = cc

pub second_same : {a b c d : ℕ} → a ∷ b ∷ [] ≡ c ∷ d ∷ [] → d ≡ b
second_same e = cc

-- What a driver leaves, under other names of the lists and of what it says.
pub went_as : {net : Network (Unit {0}) Seat} {depth count : ℕ} {s : State (Unit {0}) Seat} {said said' : Bool} (n : ℕ) {seats seats' : List Seat} {tokens tokens' : List ℕ}
    → WentRound net depth s (ring_state count seats tokens) said → n ≡ count → seats' ≡ seats → tokens' ≡ tokens → said' ≡ said
    → WentRound net depth s (ring_state n seats' tokens') said'
went_as n w e f h r = rw (r, e, f, h) w
