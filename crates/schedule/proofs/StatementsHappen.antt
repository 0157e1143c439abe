-- The events of a statement can happen on one memory, leave no letter, and leave the elements that the statement leaves in
-- sequence. Assumes nothing.
use Rattle.std.proofs.Common.{◌≡◌, ℕ, ◌≤◌, List, [], ◌∷◌, map, length, get_or, set, fold, sym, refl, ap, ◌∙◌, subst, inl, inr, arith}
use Rattle.std.specs.List.{flat_map}
use Rattle.std.proofs.lemmas.List.{length-set, get_or-set_same}
use Rattle.nest.specs.Terms.{Said}
use Rattle.nest.specs.Sound.{statement_kept}
use Rattle.nest.specs.declared.terms.Mode.{Mode}
use Rattle.nest.specs.declared.terms.Mode.TheVariants.{All, Seq}
use Rattle.nest.specs.declared.terms.ReadTerm.{ReadTerm}
use Rattle.nest.proofs.Keeps.{nest_parts}
use Rattle.layout.specs.Places.{place_of, total}
use Rattle.sections.specs.Order.{Element}
use Rattle.sections.specs.Sections.{Deals}
use Rattle.sequential.specs.Iterations.{iterations}
use Rattle.sequential.specs.Run.{Setting, setting_of, Buffers, value_in, target_in, hold_and_store, doing, in_mode, HoldAndStore}
use Rattle.sequential.specs.Laws.{In, Distinct, StoredTogether}
use Rattle.sequential.specs.declared.iteration.Iteration.{Iteration}
use Rattle.sequential.proofs.Kept.{Parts, parts_of}
use Rattle.sequential.proofs.Targets.{targets_apart, target_below}
use Rattle.sequential.proofs.ModeLaws.{each_in, modes_mean}
use Rattle.compiler.specs.Spans.{seat}
use Rattle.compiler.specs.Totals.{letters_in, between, room_for, statement_depth}
use Rattle.compiler.proofs.OrderLaws.{owners_are_boards}
use Rattle.schedule.specs.Boards.{written}
use Rattle.schedule.specs.Memory.{Event, Memory}
use Rattle.schedule.specs.Events.{event_in, pass_tasks, events_by}
use Rattle.schedule.specs.Start.{Agrees}
use Rattle.schedule.specs.Laws.{StatementsHappen}
use Rattle.schedule.proofs.ElementsThere.{target_there, read_there}
use Rattle.schedule.proofs.EventsGo.{memory_of, memory_without, Goes, goes_nowhere, goes_append, goes_from}
use Rattle.schedule.proofs.WrittenValues.{agrees_written}
use Rattle.schedule.proofs.TaskEvents.{target_at, letter_of}
use Rattle.schedule.proofs.StatementPasses.{Room, all_stored, values_held, together_goes, iteration_goes}
use Rattle.schedule.proofs.StatementValues.{distinct_back, stored_there, values_agree, agrees_together}
use Rattle.schedule.proofs.StatementRoom.{pair_has_room, room_together, room_alone}

-- events lead from a memory to one without letters, whose elements agree with a buffer
record Leads {V : Type 0} (k : Setting V) (depth : ℕ) (m : Memory V) (events : List Event) (buffer : List V) : Type 0 where
  elements : Element → V
  held : Element → V
  goes : Goes k depth m events (memory_of elements held [])
  agrees : Agrees k.arrays k.outside elements buffer

module _ {V : Type 0} (k : Setting V) (depth g : ℕ) (deals : Deals) (s : Said) (kept : Parts k.arrays s) where
  elements_apart : Distinct (map (target_at s) (iterations s.i s.j))
  elements_apart = distinct_back (target_at s) (λ (x : Element). place_of k.arrays x.0 x.1 x.2) (iterations s.i s.j) (targets_apart k.arrays s kept)

  -- iteration by iteration: one iteration writes the value that it writes in sequence
  iteration_agrees : (e : Iteration) → In e (iterations s.i s.j) → (b : Buffers V) → length b.elements ≡ total k.arrays → length b.held ≡ total k.arrays
      → (elements held : Element → V) → Agrees k.arrays k.outside elements b.elements
      → Agrees k.arrays k.outside (all_stored s (values_held k s elements (e ∷ []) held) elements (e ∷ [])) (hold_and_store k s b e).elements
  iteration_agrees e m b le lh elements held agrees =
      let place = target_in k.arrays s e in
      let v = value_in k s b.elements e in
      let low = target_below k.arrays s kept e m in
      let full : V = values_held k s elements (e ∷ []) held (target_at s e) in
      let same : full ≡ get_or (set b.held place v) place k.outside =
      stored_there k s elements held (e ∷ []) ((λ l. l), tt) e (inl refl)
      ∙ values_agree k s elements b.elements e agrees (read_there k.arrays s kept e m)
      ∙ sym (get_or-set_same b.held place v k.outside (omega arith)) in
      subst (λ w. Agrees k.arrays k.outside (written (target_at s e) full elements) (set b.elements place w)) same
      (agrees_written k.arrays k.outside elements b.elements (target_at s e) full (target_there k.arrays s kept e m) (omega arith) agrees)

  one_by_one : (es : List Iteration) → ((e : Iteration) → In e es → In e (iterations s.i s.j))
      → ((elements : Element → V) (e : Iteration) → In e (iterations s.i s.j) → (r : ReadTerm) → In r s.reads → Room depth (letter_of g deals s elements r e))
      → (b : Buffers V) → length b.elements ≡ total k.arrays → length b.held ≡ total k.arrays
      → (elements held : Element → V) → Agrees k.arrays k.outside elements b.elements
      → Leads k depth (memory_of elements held []) (flat_map (λ e. flat_map (λ t. event_in g deals s t e) (pass_tasks s)) es) (fold (doing HoldAndStore k s) b es).elements
  one_by_one [] within room b le lh elements held agrees = record { elements = elements; held = held; goes = goes_nowhere; agrees = agrees }
  one_by_one (e ∷ es) within room b le lh elements held agrees =
      let m = within e (inl refl) in
      let next = hold_and_store k s b e in
      let full = values_held k s elements (e ∷ []) held in
      let stored = all_stored s full elements (e ∷ []) in
      let place = target_in k.arrays s e in
      let v = value_in k s b.elements e in
      let rest = one_by_one es (λ x l. within x (inr l)) room next
      (length-set b.elements place (get_or (set b.held place v) place k.outside) ∙ le) (length-set b.held place v ∙ lh)
      stored full (iteration_agrees e m b le lh elements held agrees) in
      record {
        elements = rest.elements;
        held = rest.held;
        goes = goes_append (iteration_goes k depth g deals s e elements held (room elements e m)) rest.goes;
        agrees = rest.agrees;
      }

  -- a statement in either mode
  leads_by : (mode : Mode) → ((p q : ℕ) → room_for mode (between p q (letters_in (seat g deals 0) s)) ≤ depth)
      → (b : Buffers V) → length b.elements ≡ total k.arrays → length b.held ≡ total k.arrays → StoredTogether k s b (in_mode All k s (iterations s.i s.j) b)
      → (elements held : Element → V) → Agrees k.arrays k.outside elements b.elements
      → Leads k depth (memory_of elements held []) (events_by mode g deals s) (in_mode mode k s (iterations s.i s.j) b).elements
  leads_by All room b le lh stored elements held agrees =
      let es = iterations s.i s.j in
      let full = values_held k s elements es held in
      record {
        elements = all_stored s full elements es;
        held = full;
        goes = together_goes k depth g deals s es elements held (room_together depth g deals s elements room);
        agrees = agrees_together k s elements held b (in_mode All k s es b) elements_apart (target_there k.arrays s kept) (read_there k.arrays s kept) agrees stored;
      }
  leads_by Seq room b le lh stored elements held agrees =
      one_by_one (iterations s.i s.j) (λ e m. m) (λ values e m r l. room_alone depth g deals s values room e m r l) b le lh elements held agrees

pub statements_happen : (V : Type 0) → StatementsHappen V
statements_happen V n deals kept fit sound plus times coefficients outside s within m b none agrees le lh =
    let k = setting_of plus times coefficients n.arrays outside in
    let g = n.grid.rows in
    let depth = statement_depth n.grid deals s in
    let keeps = each_in (statement_kept n.arrays) n.statements s (nest_parts n.grid n.arrays n.sweeps n.statements kept).each_statement within in
    let stored = (modes_mean V n.arrays s keeps plus times coefficients outside b le lh).0 in
    let leads = leads_by k depth g deals s (parts_of n.arrays s keeps) s.mode (pair_has_room n.grid deals s (λ e l. owners_are_boards n deals kept fit sound s e within l)) b le lh stored m.elements m.held agrees in
    let goes = goes_from (memory_without m none) leads.goes in
    record {
      can = goes.can;
      without_letters = λ p q. ap (λ (x : Memory V). x.row p q) goes.leads;
      elements = λ e at. ap (λ (x : Memory V). x.elements e) goes.leads ∙ leads.agrees e at;
    }
