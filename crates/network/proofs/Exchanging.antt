-- The cases of a request to the pair.
use Rattle.std.proofs.Common.{◌≡◌, ℕ, ◌<◌, ◌≤◌, List, length, get_or, set, Some, None, Option, refl, arith}
use Rattle.network.specs.Exchange.{partner, other, exchanging, exchange, phases_left, partner_left}
use Rattle.network.specs.Desks.{desk}
use Rattle.network.specs.declared.answer.Answer.{Answer}
use Rattle.network.specs.declared.answer.Answer.TheVariants.{Ran, Waiting, Ended, Refused}
use Rattle.network.specs.declared.desk.Desk.{Desk}
use Rattle.network.specs.declared.pair.Phase.TheVariants.{Putting, Taking, Done}
use Rattle.network.specs.declared.pair.Partner.{Partner}
use Rattle.network.proofs.Desks as at_desks
use Rattle.network.proofs.Desks.{Line}

abbrev pub pair : Line Partner
pair = record { network = exchange; to = other; idle = partner Putting 0; weight = partner_left }

module _ (desks : List (Desk Partner)) (p : ℕ) where
  abbrev at : ℕ → Desk Partner
  at = at_desks.at pair desks p

  abbrev pub Left : Answer → List (Desk Partner) → Type 0
  Left = at_desks.Left pair desks p

  pub told : {a : Answer} {desks' desks'' : List (Desk Partner)} → Left a desks' → desks'' ≡ desks' → Left a desks''
  told = at_desks.told pair desks p

  pub refused : 2 ≤ p → Left Refused desks
  unfolding exchange
  refused outside = at_desks.refused pair desks p outside

  module _ (inside : p < 2) where
    there : p ≡ other (other p)
    there = omega arith

    pub ended : (at p).own.phase ≡ Done → Left Ended desks
    unfolding exchange exchanging
    ended e = at_desks.ended pair desks p inside (rw e refl)

    pub put_waits : (y : ℕ) → (at p).own.phase ≡ Putting → (at p).letter ≡ Some y → Left Waiting desks
    unfolding exchange exchanging
    put_waits y e some = at_desks.put_waits pair desks p inside (at p).own.value y (partner Taking (at p).own.value) (rw e refl) some

    pub take_waits : (v : Option ℕ) → (at p).own.phase ≡ Taking → (at (other p)).letter ≡ None → v ≡ None
        → Left Waiting (set desks (other p) (desk (at (other p)).own v))
    unfolding exchange exchanging
    take_waits v e none left = at_desks.take_waits pair desks p inside (other p) (partner Done) v (rw e refl) there none left

    module _ (two : length desks ≡ 2) where
      pub put_ran : (at p).own.phase ≡ Putting → (at p).letter ≡ None
          → Left Ran (set desks p (desk (partner Taking (at p).own.value) (Some (at p).own.value)))
      unfolding exchange exchanging phases_left
      put_ran e none =
          at_desks.put_ran pair desks p inside (omega arith) (at p).own.value (partner Taking (at p).own.value) (rw e refl) none (rw e (omega arith))

      pub take_ran : (x : ℕ) (v : Option ℕ) → (at p).own.phase ≡ Taking → (at (other p)).letter ≡ Some x → v ≡ None
          → (let taken : List (Desk Partner) = set desks (other p) (desk (at (other p)).own v) in Left Ran (set taken p (desk (partner Done x) (get_or taken p (desk (partner Putting 0) None)).letter)))
      unfolding exchange exchanging phases_left
      take_ran x v e some left =
          at_desks.take_ran pair desks p inside (omega arith) (other p) (partner Done) x v (omega arith) (rw e refl) there some left (rw e (omega arith))
