-- The same steps on one memory that all boards share, with the rows of letters beside it. Assumes nothing.
use Rattle.std.specs.Prelude.{◌≡◌, ℕ, ◌<◌, List, [], ◌∷◌, map, length, fold, filter, nat_eq}
use Rattle.sections.specs.Order.{Element}
use Rattle.sequential.specs.Run.{Setting}
use Rattle.network.specs.Request.{changed, joined, without_oldest}
use Rattle.compiler.specs.Deeds.{Deed, rests, ships, holds, adds_own, adds_taken, stores}
use Rattle.schedule.specs.Boards.{written, coefficient_of, with_term}

-- a step, with the board that does it
abbrev pub Event : Type 0
Event = ℕ × Deed

-- a value and a held value for each element, and the row of letters of each sender and receiver
pub record Memory (V : Type 0) : Type 0 where
  pub elements : Element → V
  pub held : Element → V
  pub row : ℕ → ℕ → List V

-- board p adds a letter of a row to what is held for a target; from an empty row it takes nothing
unfoldable pub add_taken : {V : Type 0} → Setting V → Memory V → ℕ → ℕ → ℕ → Element → List V → Memory V
add_taken k m p c q e [] = m
add_taken k m p c q e (letter ∷ _) = record m { held = written e (with_term k c letter (m.held e)) m.held; row = changed q p without_oldest m.row }

-- what an event does to the memory
unfoldable pub happens : {V : Type 0} → Setting V → Memory V → ℕ → Deed → Memory V
happens k m p rests = m
happens k m p (ships q e) = record m { row = changed p q (joined (m.elements e)) m.row }
happens k m p (holds c e) = record m { held = written e (coefficient_of k c) m.held }
happens k m p (adds_own c r e) = record m { held = written e (with_term k c (m.elements r) (m.held e)) m.held }
happens k m p (adds_taken c q e) = add_taken k m p c q e (m.row q p)
happens k m p (stores e) = record m { elements = written e (m.held e) m.elements }

abbrev pub after_event : {V : Type 0} → Setting V → Memory V → Event → Memory V
after_event k m ev = happens k m ev.0 ev.1

-- the memory after a list of events
abbrev pub after_events : {V : Type 0} → Setting V → Memory V → List Event → Memory V
after_events k m events = fold (after_event k) m events

-- an event can happen: a letter that is put has room, a letter that is taken is there
abbrev pub Can : {V : Type 0} → ℕ → Memory V → ℕ → Deed → Type 0
Can depth m p (ships q e) = length (m.row p q) < depth
Can depth m p (adds_taken c q e) = 0 < length (m.row q p)
Can depth m p _ = Unit {0}

-- a list of events can happen one after the other
abbrev pub AllCan : {V : Type 0} → Setting V → ℕ → Memory V → List Event → Type 0
AllCan k depth m [] = Unit {0}
AllCan k depth m (ev ∷ events) = Can depth m ev.0 ev.1 × AllCan k depth (after_event k m ev) events

-- an event touches only elements that are there and belong to its board
abbrev pub AtHome : (Element → Type 0) → (Element → ℕ) → ℕ → Deed → Type 0
AtHome Here owner p rests = Unit {0}
AtHome Here owner p (ships q e) = Here e × (owner e ≡ p)
AtHome Here owner p (holds c e) = Here e × (owner e ≡ p)
AtHome Here owner p (adds_own c r e) = Here r × (owner r ≡ p) × Here e × (owner e ≡ p)
AtHome Here owner p (adds_taken c q e) = Here e × (owner e ≡ p)
AtHome Here owner p (stores e) = Here e × (owner e ≡ p)

-- the steps of board p among some events
abbrev pub share_of : ℕ → List Event → List Deed
share_of p events = map (λ ev. ev.1) (filter (λ ev. nat_eq ev.0 p) events)

-- a memory in which no letter waits
abbrev pub NoLetters : {V : Type 0} → Memory V → Type 0
NoLetters m = (p q : ℕ) → m.row p q ≡ []
