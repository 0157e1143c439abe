-- The events of a whole nest on one memory: they can happen, and lead where the sequential run leads. Assumes nothing.
use Rattle.std.proofs.Common.{◌≡◌, ℕ, zero, suc, ◌≤◌, true, List, [], ◌∷◌, ◌++◌, map, length, get_or, fold, refl, ap, ◌∙◌, inl, inr, arith}
use Rattle.std.proofs.lemmas.List.{length-set}
use Rattle.nest.specs.Terms.{Said, Sheet}
use Rattle.nest.specs.Sound.{nest_kept}
use Rattle.nest.specs.declared.terms.Mode.{Mode}
use Rattle.nest.specs.declared.terms.Mode.TheVariants.{All, Seq}
use Rattle.layout.specs.Places.{total}
use Rattle.sections.specs.Sections.{Deals, Fits}
use Rattle.sequential.specs.Iterations.{iterations}
use Rattle.sequential.specs.Laws.{In}
use Rattle.sequential.specs.Run.{Setting, setting_of, Buffers, value_in, target_in, hold, hold_and_store, doing, in_mode, after_statement, after_sweep, after_sweeps, Hold, HoldAndStore}
use Rattle.sequential.specs.declared.iteration.Iteration.{Iteration}
use Rattle.sequential.proofs.Passing.{held_elements, held_length, stored_held, stored_length}
use Rattle.compiler.specs.Deeds.{Deed, ships}
use Rattle.compiler.specs.Laws.{AllSound}
use Rattle.compiler.specs.Totals.{statement_depth, depth_of}
use Rattle.schedule.specs.Memory.{Event, Memory, after_event, after_events, Can, AllCan, NoLetters}
use Rattle.schedule.specs.Events.{statement_events, again, sweep_events, nest_events}
use Rattle.schedule.specs.Start.{Agrees}
use Rattle.schedule.specs.Laws.{StatementsHappen}
use Rattle.schedule.proofs.EventLists.{in_mapped, greatest_from}

-- the depth of a nest has room for each statement
pub depth_enough : (n : Sheet) (deals : Deals) (s : Said) → In s n.statements → statement_depth n.grid deals s ≤ depth_of n deals
depth_enough n deals s m =
    greatest_from (map (statement_depth n.grid deals) n.statements) 0 (statement_depth n.grid deals s) (inr (in_mapped (statement_depth n.grid deals) s n.statements m))

-- what can happen at a depth can happen at a greater one
can_deeper : {V : Type 0} (d e : ℕ) (m : Memory V) (p : ℕ) (x : Deed) → d ≤ e → Can d m p x → Can e m p x
can_deeper d e m p (ships q a) h c = omega arith
can_deeper d e m p x h c = c

module _ {V : Type 0} (k : Setting V) where
  pub all_can_deeper : (d e : ℕ) (m : Memory V) (events : List Event) → d ≤ e → AllCan k d m events → AllCan k e m events
  all_can_deeper d e m [] h can = tt
  all_can_deeper d e m (ev ∷ events) h can = (can_deeper d e m ev.0 ev.1 h can.0, all_can_deeper d e (after_event k m ev) events h can.1)

  -- events after events
  pub after_append : (m : Memory V) (xs ys : List Event) → after_events k m (xs ++ ys) ≡ after_events k (after_events k m xs) ys
  after_append m [] ys = refl
  after_append m (x ∷ xs) ys = after_append (after_event k m x) xs ys

  pub can_append : (d : ℕ) (m : Memory V) (xs ys : List Event) → AllCan k d m xs → AllCan k d (after_events k m xs) ys → AllCan k d m (xs ++ ys)
  can_append d m [] ys first then = then
  can_append d m (x ∷ xs) ys first then = (first.0, can_append d (after_event k m x) xs ys first.1 then)

  -- a statement leaves the buffers as long as they were
  passes_length : (s : Said) (es : List Iteration) (b : Buffers V)
      → (length (fold (doing HoldAndStore k s) b es).elements ≡ length b.elements) × (length (fold (doing HoldAndStore k s) b es).held ≡ length b.held)
  passes_length s [] b = (refl, refl)
  passes_length s (e ∷ es) b =
      let t : ℕ = target_in k.arrays s e in
      let c : Buffers V = hold k s b e in
      let r = passes_length s es (hold_and_store k s b e) in
      (r.0 ∙ length-set b.elements t (get_or c.held t k.outside), r.1 ∙ length-set b.held t (value_in k s b.elements e))

  mode_length : (w : Mode) (s : Said) (es : List Iteration) (b : Buffers V)
      → (length (in_mode w k s es b).elements ≡ length b.elements) × (length (in_mode w k s es b).held ≡ length b.held)
  mode_length All s es b =
      let h : Buffers V = fold (doing Hold k s) b es in
      (stored_length k s es h ∙ ap length (held_elements k s es b), ap length (stored_held k s es h) ∙ held_length k s es b)
  mode_length Seq s es b = passes_length s es b

  pub statement_length : (b : Buffers V) (s : Said) → (length (after_statement k b s).elements ≡ length b.elements) × (length (after_statement k b s).held ≡ length b.held)
  statement_length b s = mode_length s.mode s (iterations s.i s.j) b

-- a memory and buffers between two statements
pub record Between {V : Type 0} (k : Setting V) (m : Memory V) (b : Buffers V) : Type 0 where
  pub without_letters : NoLetters m
  pub elements : Agrees k.arrays k.outside m.elements b.elements
  pub elements_length : length b.elements ≡ total k.arrays
  pub held_length : length b.held ≡ total k.arrays

-- events can happen, and lead to buffers
pub record Leads {V : Type 0} (k : Setting V) (depth : ℕ) (m : Memory V) (events : List Event) (b : Buffers V) : Type 0 where
  pub can : AllCan k depth m events
  pub between : Between k (after_events k m events) b

leads_on : {V : Type 0} (k : Setting V) (depth : ℕ) (m : Memory V) (xs ys : List Event) (b c : Buffers V)
    → Leads k depth m xs b → Leads k depth (after_events k m xs) ys c → Leads k depth m (xs ++ ys) c
leads_on k depth m xs ys b c first then = record {
  can = can_append k depth m xs ys first.can then.can;
  between = rw (after_append k m xs ys) then.between;
}

module _ {V : Type 0} (happen : StatementsHappen V) (n : Sheet) (deals : Deals) (kept : nest_kept n.grid n.arrays n.sweeps n.statements ≡ true) (fit : Fits n.grid n.arrays deals) (sound : AllSound deals)
    (plus times : V → V → V) (coefficients : List V) (outside : V) where
  statement_leads : (s : Said) → In s n.statements → (m : Memory V) (b : Buffers V) → Between (setting_of plus times coefficients n.arrays outside) m b
      → Leads (setting_of plus times coefficients n.arrays outside) (depth_of n deals) m (statement_events n.grid.rows deals s) (after_statement (setting_of plus times coefficients n.arrays outside) b s)
  statement_leads s ms m b so =
      let k : Setting V = setting_of plus times coefficients n.arrays outside in
      let h = happen n deals kept fit sound plus times coefficients outside s ms m b so.without_letters so.elements so.elements_length so.held_length in
      let long = statement_length k b s in
      record {
        can = all_can_deeper k (statement_depth n.grid deals s) (depth_of n deals) m (statement_events n.grid.rows deals s) (depth_enough n deals s ms) h.can;
        between = record { without_letters = h.without_letters; elements = h.elements; elements_length = long.0 ∙ so.elements_length; held_length = long.1 ∙ so.held_length };
      }

  sweep_leads : (statements : List Said) → ((s : Said) → In s statements → In s n.statements) → (m : Memory V) (b : Buffers V) → Between (setting_of plus times coefficients n.arrays outside) m b
      → Leads (setting_of plus times coefficients n.arrays outside) (depth_of n deals) m (sweep_events n.grid.rows deals statements) (after_sweep (setting_of plus times coefficients n.arrays outside) statements b)
  sweep_leads [] some m b so = record { can = tt; between = so }
  sweep_leads (s ∷ statements) some m b so =
      let k : Setting V = setting_of plus times coefficients n.arrays outside in
      let first = statement_leads s (some s (inl refl)) m b so in
      leads_on k (depth_of n deals) m (statement_events n.grid.rows deals s) (sweep_events n.grid.rows deals statements) (after_statement k b s) (after_sweep k statements (after_statement k b s)) first
      (sweep_leads statements (λ x mx. some x (inr mx)) (after_events k m (statement_events n.grid.rows deals s)) (after_statement k b s) first.between)

  sweeps_lead : (c : ℕ) (m : Memory V) (b : Buffers V) → Between (setting_of plus times coefficients n.arrays outside) m b
      → Leads (setting_of plus times coefficients n.arrays outside) (depth_of n deals) m (again c (sweep_events n.grid.rows deals n.statements)) (after_sweeps (setting_of plus times coefficients n.arrays outside) n.statements c b)
  sweeps_lead zero m b so = record { can = tt; between = so }
  sweeps_lead (suc c) m b so =
      let k : Setting V = setting_of plus times coefficients n.arrays outside in
      let events : List Event = sweep_events n.grid.rows deals n.statements in
      let before : Buffers V = after_sweeps k n.statements c b in
      let first = sweeps_lead c m b so in
      leads_on k (depth_of n deals) m (again c events) events before (after_sweep k n.statements before) first
      (sweep_leads n.statements (λ x mx. mx) (after_events k m (again c events)) before first.between)

  -- the whole nest
  pub nest_leads : (m : Memory V) (b : Buffers V) → Between (setting_of plus times coefficients n.arrays outside) m b
      → Leads (setting_of plus times coefficients n.arrays outside) (depth_of n deals) m (nest_events n deals) (after_sweeps (setting_of plus times coefficients n.arrays outside) n.statements n.sweeps b)
  nest_leads m b so = sweeps_lead n.sweeps m b so
