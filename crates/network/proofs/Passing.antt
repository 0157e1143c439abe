-- The cases of a request to the relay.
use Rattle.std.proofs.Common.{◌≡◌, ℕ, ◌-◌, ◌<◌, ◌≤◌, ◌≢◌, List, length, get_or, set, Some, None, Option, refl, arith}
use Rattle.std.proofs.lemmas.Bool.Decides.{nat_tests}
use Rattle.network.specs.Network.{puts, takes}
use Rattle.network.specs.Relaying.{plus, after, relaying, relay_of, station_left}
use Rattle.network.specs.Desks.{desk}
use Rattle.network.specs.declared.answer.Answer.{Answer}
use Rattle.network.specs.declared.answer.Answer.TheVariants.{Ran, Waiting, Ended, Refused}
use Rattle.network.specs.declared.desk.Desk.{Desk}
use Rattle.network.specs.declared.relay.Station.{Station}
use Rattle.network.specs.declared.relay.Station.TheVariants.{Adds, Holds, Done}
use Rattle.network.proofs.Desks as at_desks
use Rattle.network.proofs.Desks.{Line}

abbrev pub relay : ℕ → Line Station
relay count = record { network = relay_of count; to = after; idle = Adds 0; weight = station_left }

module _ (count : ℕ) (desks : List (Desk Station)) (p : ℕ) where
  abbrev at : ℕ → Desk Station
  at = at_desks.at (relay count) desks p

  abbrev pub Left : Answer → List (Desk Station) → Type 0
  Left = at_desks.Left (relay count) desks p

  pub told : {a : Answer} {desks' desks'' : List (Desk Station)} → Left a desks' → desks'' ≡ desks' → Left a desks''
  told = at_desks.told (relay count) desks p

  pub refused : count ≤ p → Left Refused desks
  unfolding relay_of
  refused outside = at_desks.refused (relay count) desks p outside

  module _ (inside : p < count) where
    takes_next : (v : ℕ) → (at p).own ≡ Adds v → p ≢ 0 → (relay_of count).next p (at p).own ≡ takes (p - 1) (λ x. Holds (plus v x))
    unfolding relay_of relaying
    takes_next v e later = rw e (grind (arith, nat_tests))

    puts_next : (s : ℕ) → (at p).own ≡ Holds s → after p ≢ count → (relay_of count).next p (at p).own ≡ puts (after p) s (Done s)
    unfolding relay_of relaying
    puts_next s e more = rw e (grind (arith, nat_tests))

    pub ended : (s : ℕ) → (at p).own ≡ Done s → Left Ended desks
    unfolding relay_of relaying
    ended s e = at_desks.ended (relay count) desks p inside (rw e refl)

    pub put_waits : (s x : ℕ) → (at p).own ≡ Holds s → after p ≢ count → (at p).letter ≡ Some x → Left Waiting desks
    unfolding relay_of
    put_waits s x e more some = at_desks.put_waits (relay count) desks p inside s x (Done s) (puts_next s e more) some

    pub take_waits : (v : ℕ) (left : Option ℕ) → (at p).own ≡ Adds v → p ≢ 0 → (at (p - 1)).letter ≡ None → left ≡ None
        → Left Waiting (set desks (p - 1) (desk (at (p - 1)).own left))
    unfolding relay_of
    take_waits v left e later none taken =
        at_desks.take_waits (relay count) desks p inside (p - 1) (λ x. Holds (plus v x)) left (takes_next v e later) (omega arith) none taken

    module _ (here : p < length desks) where
      pub starts : (v : ℕ) → (at p).own ≡ Adds v → p ≡ 0 → Left Ran (set desks p (desk (Holds v) (at p).letter))
      unfolding relay_of relaying station_left
      starts v e first =
          at_desks.ran_alone (relay count) desks p inside here (Holds v) (rw e (grind (arith, nat_tests))) (rw e (omega arith))

      pub keeps : (s : ℕ) → (at p).own ≡ Holds s → after p ≡ count → Left Ran (set desks p (desk (Done s) (at p).letter))
      unfolding relay_of relaying station_left
      keeps s e last =
          at_desks.ran_alone (relay count) desks p inside here (Done s) (rw e (grind (arith, nat_tests))) (rw e (omega arith))

      pub take_ran : (v x : ℕ) (left : Option ℕ) → (at p).own ≡ Adds v → p ≢ 0 → (at (p - 1)).letter ≡ Some x → left ≡ None
          → (let taken : List (Desk Station) = set desks (p - 1) (desk (at (p - 1)).own left) in Left Ran (set taken p (desk (Holds (plus v x)) (get_or taken p (desk (Adds 0) None)).letter)))
      unfolding relay_of station_left
      take_ran v x left e later some taken =
          at_desks.take_ran (relay count) desks p inside here (p - 1) (λ y. Holds (plus v y)) x left (omega arith) (takes_next v e later) (omega arith) some taken (rw e (omega arith))

      pub put_ran : (s : ℕ) → (at p).own ≡ Holds s → after p ≢ count → (at p).letter ≡ None → Left Ran (set desks p (desk (Done s) (Some s)))
      unfolding relay_of station_left
      put_ran s e more none = at_desks.put_ran (relay count) desks p inside here s (Done s) (puts_next s e more) none (rw e (omega arith))
