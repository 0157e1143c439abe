-- The event of each task in one iteration, on a memory with a list of letters that wait. Assumes nothing.
use Rattle.std.proofs.Common.{◌≡◌, ℕ, ◌<◌, Bool, true, false, cond, eqb, List, [], ◌∷◌, ◌++◌, length, sym, refl, ap, ◌∙◌, subst, append-nil, arith}
use Rattle.nest.specs.Terms.{Said}
use Rattle.nest.specs.declared.terms.ReadTerm.{ReadTerm}
use Rattle.sections.specs.Order.{Element}
use Rattle.sections.specs.Sections.{Deals}
use Rattle.sequential.specs.Run.{Setting}
use Rattle.sequential.specs.declared.iteration.Iteration.{Iteration}
use Rattle.compiler.specs.Spans.{seat}
use Rattle.compiler.specs.Cells.{element_at, board_at}
use Rattle.compiler.specs.Deeds.{rests, ships, holds, adds_own, adds_taken, stores}
use Rattle.compiler.specs.declared.order.Task.TheVariants.{Ship, Base, Add, Store}
use Rattle.schedule.specs.Boards.{written, coefficient_of, with_term}
use Rattle.schedule.specs.Memory.{Memory, happens, add_taken}
use Rattle.schedule.specs.Events.{event_for, event_in}
use Rattle.schedule.proofs.WaitingLetters.{Waiting, rows_in, eqb_same, eqb_turned, oldest_first, oldest_taken, put_behind}
use Rattle.schedule.proofs.EventsGo.{memory_of, Goes, goes_by}

-- the target of an iteration, and its board; the board of the element of a read
abbrev pub target_at : Said → Iteration → Element
target_at s e = element_at s.put e

abbrev pub receiver : ℕ → Deals → Said → Iteration → ℕ
receiver g deals s e = board_at (seat g deals 0) s.put e

abbrev pub sender : ℕ → Deals → ReadTerm → Iteration → ℕ
sender g deals r e = board_at (seat g deals 0) r.source e

-- the letter of a read, if its element and the target are on different boards
abbrev pub letter_of : {V : Type 0} → ℕ → Deals → Said → (Element → V) → ReadTerm → Iteration → List (Waiting V)
letter_of g deals s elements r e =
    cond (eqb (sender g deals r e) (receiver g deals s e)) [] ((sender g deals r e, receiver g deals s e, elements (element_at r.source e)) ∷ [])

-- a value with the term of a read added
abbrev pub term_added : {V : Type 0} → Setting V → (Element → V) → ReadTerm → Iteration → V → V
term_added k elements r e value = with_term k r.coefficient (elements (element_at r.source e)) value

module _ {V : Type 0} (k : Setting V) (depth g : ℕ) (deals : Deals) (s : Said) where
  -- the base
  pub base_goes : (e : Iteration) (elements held : Element → V) (letters : List (Waiting V))
      → Goes k depth (memory_of elements held letters) (event_in g deals s Base e) (memory_of elements (written (target_at s e) (coefficient_of k s.base) held) letters)
  unfolding happens
  base_goes e elements held letters =
      goes_by (ap (λ t. event_for (receiver g deals s e) (cond t (holds s.base (target_at s e)) rests)) (eqb_same (receiver g deals s e)))
      (record { can = (tt, tt); leads = refl })

  -- the store
  pub store_goes : (e : Iteration) (elements held : Element → V) (letters : List (Waiting V))
      → Goes k depth (memory_of elements held letters) (event_in g deals s Store e) (memory_of (written (target_at s e) (held (target_at s e)) elements) held letters)
  unfolding happens
  store_goes e elements held letters =
      goes_by (ap (λ t. event_for (receiver g deals s e) (cond t (stores (target_at s e)) rests)) (eqb_same (receiver g deals s e)))
      (record { can = (tt, tt); leads = refl })

  -- a ship between two boards
  shipped : (a b : ℕ) (x : Element) (elements held : Element → V) (letters : List (Waiting V)) (t : Bool)
      → (t ≡ false → length (rows_in letters a b) < depth)
      → Goes k depth (memory_of elements held letters) (event_for a (cond t rests (ships b x))) (memory_of elements held (letters ++ cond t [] ((a, b, elements x) ∷ [])))
  unfolding happens
  shipped a b x elements held letters true room = record { can = tt; leads = ap (memory_of elements held) (sym (append-nil letters)) }
  shipped a b x elements held letters false room = record {
    can = (room refl, tt);
    leads = λ i. record { elements = elements; held = held; row = put_behind a b (elements x) letters i };
  }

  -- a ship: its letter waits behind the others, where there is room for it
  pub ship_goes : (r : ReadTerm) (e : Iteration) (elements held : Element → V) (letters : List (Waiting V))
      → (eqb (sender g deals r e) (receiver g deals s e) ≡ false → length (rows_in letters (sender g deals r e) (receiver g deals s e)) < depth)
      → Goes k depth (memory_of elements held letters) (event_in g deals s (Ship r) e) (memory_of elements held (letters ++ letter_of g deals s elements r e))
  ship_goes r e elements held letters room =
      let a = sender g deals r e in
      let b = receiver g deals s e in
      let x = element_at r.source e in
      goes_by (ap (λ t. event_for a (cond t (cond (eqb b a) rests (ships b x)) rests)) (eqb_same a) ∙ ap (λ t. event_for a (cond t rests (ships b x))) (eqb_turned b a))
      (shipped a b x elements held letters (eqb a b) room)

  -- an add of a board's own element, or of the oldest letter of all that wait
  added : (a b c : ℕ) (x target : Element) (elements held : Element → V) (letters : List (Waiting V)) (t : Bool)
      → Goes k depth (memory_of elements held (cond t [] ((a, b, elements x) ∷ []) ++ letters)) (event_for b (cond t (adds_own c x target) (adds_taken c a target)))
      (memory_of elements (written target (with_term k c (elements x) (held target)) held) letters)
  unfolding happens add_taken
  added a b c x target elements held letters true = record { can = (tt, tt); leads = refl }
  added a b c x target elements held letters false =
      let m : Memory V = memory_of elements held ((a, b, elements x) ∷ letters) in
      let first = oldest_first a b (elements x) letters in
      record {
        can = (subst (λ (row : List V). 0 < length row) (sym first) (omega arith), tt);
        leads = ap (λ row. add_taken k m b c a target row) first
            ∙ λ i. record { elements = elements; held = written target (with_term k c (elements x) (held target)) held; row = oldest_taken a b (elements x) letters i };
      }

  -- an add: the letter of the read, if it has one, is the oldest of all that wait
  pub add_goes : (r : ReadTerm) (e : Iteration) (elements held : Element → V) (letters : List (Waiting V))
      → Goes k depth (memory_of elements held (letter_of g deals s elements r e ++ letters)) (event_in g deals s (Add r) e)
      (memory_of elements (written (target_at s e) (term_added k elements r e (held (target_at s e))) held) letters)
  add_goes r e elements held letters =
      let a = sender g deals r e in
      let b = receiver g deals s e in
      let c = r.coefficient in
      let x = element_at r.source e in
      let target = target_at s e in
      goes_by (ap (λ t. event_for b (cond t (cond (eqb a b) (adds_own c x target) (adds_taken c a target)) rests)) (eqb_same b))
      (added a b c x target elements held letters (eqb a b))
