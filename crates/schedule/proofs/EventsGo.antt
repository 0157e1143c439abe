-- Lists of events that lead from one memory to another. Assumes nothing.
use Rattle.std.proofs.Common.{◌≡◌, ℕ, List, [], ◌∷◌, ◌++◌, sym, refl, ◌∙◌, subst}
use Rattle.sections.specs.Order.{Element}
use Rattle.sequential.specs.Run.{Setting}
use Rattle.schedule.specs.Memory.{Event, Memory, after_event, after_events, AllCan, NoLetters}
use Rattle.schedule.proofs.WaitingLetters.{Waiting, rows_in}

-- a memory with a list of letters that wait
abbrev pub memory_of : {V : Type 0} → (Element → V) → (Element → V) → List (Waiting V) → Memory V
memory_of elements held letters = record { elements = elements; held = held; row = rows_in letters }

-- a memory without letters is one with an empty list of them
pub memory_without : {V : Type 0} (m : Memory V) → NoLetters m → m ≡ memory_of m.elements m.held []
memory_without m none = λ i. record { elements = m.elements; held = m.held; row = λ p q. none p q i }

-- events can happen one after the other, and lead from one memory to another
pub record Goes {V : Type 0} (k : Setting V) (depth : ℕ) (m : Memory V) (events : List Event) (end : Memory V) : Type 0 where
  pub can : AllCan k depth m events
  pub leads : after_events k m events ≡ end

module _ {V : Type 0} {k : Setting V} {depth : ℕ} where
  -- no event
  pub goes_nowhere : {m : Memory V} → Goes k depth m [] m
  goes_nowhere = record { can = tt; leads = refl }

  -- events after events
  pub goes_append : {xs ys : List Event} {a b c : Memory V} → Goes k depth a xs b → Goes k depth b ys c → Goes k depth a (xs ++ ys) c
  goes_append {xs} {ys} {a} {b} {c} f g = on xs a f
    where
      on : (xs : List Event) (a : Memory V) → Goes k depth a xs b → Goes k depth a (xs ++ ys) c
      on [] a f = rw f.leads g
      on (ev ∷ xs) a f =
          let r = on xs (after_event k a ev) (record { can = f.can.1; leads = f.leads }) in
          record { can = (f.can.0, r.can); leads = r.leads }

  -- another end, another beginning, other events, of which it is known that they are the same
  pub goes_to : {events : List Event} {a b c : Memory V} → b ≡ c → Goes k depth a events b → Goes k depth a events c
  goes_to e f = record { can = f.can; leads = f.leads ∙ e }

  pub goes_from : {events : List Event} {a b c : Memory V} → a ≡ b → Goes k depth b events c → Goes k depth a events c
  goes_from {events} {a} {b} {c} e f = subst (λ (m : Memory V). Goes k depth m events c) (sym e) f

  pub goes_by : {xs ys : List Event} {a b : Memory V} → xs ≡ ys → Goes k depth a ys b → Goes k depth a xs b
  goes_by {xs} {ys} {a} {b} e f = subst (λ (events : List Event). Goes k depth a events b) (sym e) f
