-- The events of a statement on a memory with a list of letters that wait: of one task over all iterations, and of all tasks
-- in one iteration. Assumes nothing.
use Rattle.std.proofs.Common.{◌≡◌, ℕ, ◌+◌, ◌<◌, ◌≤◌, Bool, true, false, cond, eqb, List, [], ◌∷◌, ◌++◌, map, length, fold, sym, refl, ap, ◌∙◌, subst, inl, inr, append-nil, arith, length-append}
use Rattle.std.proofs.lemmas.List.Concat.{flat_map-append}
use Rattle.std.specs.List.{flat_map}
use Rattle.std.proofs.lemmas.List.{append_assoc}
use Rattle.std.proofs.lemmas.Bool.{true≢false}
use Rattle.nest.specs.Terms.{Said}
use Rattle.nest.specs.declared.terms.ReadTerm.{ReadTerm}
use Rattle.sections.specs.Order.{Element}
use Rattle.sections.specs.Sections.{Deals}
use Rattle.sequential.specs.Laws.{In}
use Rattle.sequential.specs.Run.{Setting}
use Rattle.sequential.specs.declared.iteration.Iteration.{Iteration}
use Rattle.compiler.specs.Orders.{tasks_of}
use Rattle.compiler.specs.Cells.{element_at}
use Rattle.compiler.specs.declared.order.Task.{Task}
use Rattle.compiler.specs.declared.order.Task.TheVariants.{Ship, Base, Add, Store}
use Rattle.schedule.specs.Boards.{coefficient_of}
use Rattle.schedule.specs.Memory.{Event}
use Rattle.schedule.specs.Events.{event_in, pass_tasks}
use Rattle.schedule.proofs.WaitingLetters.{Waiting, rows_in, rows_append, oldest_first}
use Rattle.schedule.proofs.EventsGo.{memory_of, Goes, goes_nowhere, goes_append, goes_by, goes_from, goes_to}
use Rattle.schedule.proofs.WrittenValues.{rewritten}
use Rattle.schedule.proofs.TaskEvents.{target_at, receiver, sender, letter_of, term_added, base_goes, store_goes, ship_goes, add_goes}

-- no row of some letters is longer than the depth
abbrev pub Room : {V : Type 0} → ℕ → List (Waiting V) → Type 0
Room depth letters = (p q : ℕ) → length (rows_in letters p q) ≤ depth

-- so the letters before one of them leave room for it
room_before : {V : Type 0} (depth : ℕ) (before after : List (Waiting V)) (p q : ℕ) (v : V) → Room depth (before ++ ((p, q, v) ∷ after)) → length (rows_in before p q) < depth
room_before depth before after p q v room =
    let long : length (rows_in (before ++ ((p, q, v) ∷ after)) p q) ≡ length (rows_in before p q) + length (rows_in ((p, q, v) ∷ after) p q) =
    ap length (rows_append before ((p, q, v) ∷ after) p q) ∙ length-append (rows_in before p q) (rows_in ((p, q, v) ∷ after) p q) in
    omega (arith, room p q, ap length (oldest_first p q v after))

ship_room : {V : Type 0} (depth : ℕ) (before after : List (Waiting V)) (p q : ℕ) (v : V) (t : Bool) → Room depth (before ++ (cond t [] ((p, q, v) ∷ []) ++ after))
    → t ≡ false → length (rows_in before p q) < depth
ship_room depth before after p q v true room f = absurd (true≢false f)
ship_room depth before after p q v false room f = room_before depth before after p q v room

room_front : {V : Type 0} (depth : ℕ) (before after : List (Waiting V)) → Room depth (before ++ after) → Room depth before
room_front depth before after room p q =
    omega (arith, room p q, ap length (rows_append before after p q), length-append (rows_in before p q) (rows_in after p q))

-- what is held after the base, after the term of a read, and what the elements are after the store, iteration by iteration
abbrev pub bases_held : {V : Type 0} → Setting V → Said → (Element → V) → List Iteration → Element → V
bases_held k s held es = fold (rewritten (target_at s) (λ e _. coefficient_of k s.base)) held es

abbrev pub terms_held : {V : Type 0} → Setting V → Said → (Element → V) → List Iteration → (Element → V) → ReadTerm → Element → V
terms_held k s elements es held r = fold (rewritten (target_at s) (term_added k elements r)) held es

abbrev pub all_stored : {V : Type 0} → Said → (Element → V) → (Element → V) → List Iteration → Element → V
all_stored s held elements es = fold (rewritten (target_at s) (λ e _. held (target_at s e))) elements es

-- what is held after the base and the terms of all reads
abbrev pub values_held : {V : Type 0} → Setting V → Said → (Element → V) → List Iteration → (Element → V) → Element → V
values_held k s elements es held = fold (terms_held k s elements es) (bases_held k s held es) s.reads

-- the letters of a read over some iterations, and of some reads
abbrev pub letters_over : {V : Type 0} → ℕ → Deals → Said → (Element → V) → List Iteration → ReadTerm → List (Waiting V)
letters_over g deals s elements es r = flat_map (letter_of g deals s elements r) es

abbrev pub all_letters : {V : Type 0} → ℕ → Deals → Said → (Element → V) → List Iteration → List ReadTerm → List (Waiting V)
all_letters g deals s elements es reads = flat_map (letters_over g deals s elements es) reads

module _ {V : Type 0} (k : Setting V) (depth g : ℕ) (deals : Deals) (s : Said) where
  -- one task over some iterations
  pub bases_go : (es : List Iteration) (elements held : Element → V) (letters : List (Waiting V))
      → Goes k depth (memory_of elements held letters) (flat_map (event_in g deals s Base) es) (memory_of elements (bases_held k s held es) letters)
  bases_go [] elements held letters = goes_nowhere
  bases_go (e ∷ es) elements held letters =
      goes_append (base_goes k depth g deals s e elements held letters) (bases_go es elements (rewritten (target_at s) (λ e _. coefficient_of k s.base) held e) letters)

  pub stores_go : (es : List Iteration) (elements held : Element → V) (letters : List (Waiting V))
      → Goes k depth (memory_of elements held letters) (flat_map (event_in g deals s Store) es) (memory_of (all_stored s held elements es) held letters)
  stores_go [] elements held letters = goes_nowhere
  stores_go (e ∷ es) elements held letters =
      goes_append (store_goes k depth g deals s e elements held letters) (stores_go es (rewritten (target_at s) (λ e _. held (target_at s e)) elements e) held letters)

  -- the ships of one read, each behind the letters before it
  ships_go : (r : ReadTerm) (elements held : Element → V) (es : List Iteration) (letters : List (Waiting V)) → Room depth (letters ++ letters_over g deals s elements es r)
      → Goes k depth (memory_of elements held letters) (flat_map (event_in g deals s (Ship r)) es) (memory_of elements held (letters ++ letters_over g deals s elements es r))
  ships_go r elements held [] letters room = goes_to (ap (memory_of elements held) (sym (append-nil letters))) goes_nowhere
  ships_go r elements held (e ∷ es) letters room =
      let one = letter_of g deals s elements r e in
      let rest = letters_over g deals s elements es r in
      let same : (letters ++ one) ++ rest ≡ letters ++ (one ++ rest) = append_assoc letters one rest in
      let v = elements (element_at r.source e) in
      goes_append
      (ship_goes k depth g deals s r e elements held letters (ship_room depth letters rest (sender g deals r e) (receiver g deals s e) v (eqb (sender g deals r e) (receiver g deals s e)) room))
      (goes_to (ap (memory_of elements held) same) (ships_go r elements held es (letters ++ one) (subst (Room depth) (sym same) room)))

  -- the adds of one read: they take the letters that wait longest
  adds_go : (r : ReadTerm) (elements : Element → V) (es : List Iteration) (held : Element → V) (letters : List (Waiting V))
      → Goes k depth (memory_of elements held (letters_over g deals s elements es r ++ letters)) (flat_map (event_in g deals s (Add r)) es) (memory_of elements (terms_held k s elements es held r) letters)
  adds_go r elements [] held letters = goes_nowhere
  adds_go r elements (e ∷ es) held letters =
      let rest = letters_over g deals s elements es r in
      goes_from (ap (memory_of elements held) (append_assoc (letter_of g deals s elements r e) rest letters))
      (goes_append (add_goes k depth g deals s r e elements held (rest ++ letters)) (adds_go r elements es (rewritten (target_at s) (term_added k elements r) held e) letters))

  -- the ships of some reads, and their adds
  all_ships_go : (es : List Iteration) (elements held : Element → V) (reads : List ReadTerm) (letters : List (Waiting V)) → Room depth (letters ++ all_letters g deals s elements es reads)
      → Goes k depth (memory_of elements held letters) (flat_map (λ t. flat_map (event_in g deals s t) es) (map Ship reads)) (memory_of elements held (letters ++ all_letters g deals s elements es reads))
  all_ships_go es elements held [] letters room = goes_to (ap (memory_of elements held) (sym (append-nil letters))) goes_nowhere
  all_ships_go es elements held (r ∷ reads) letters room =
      let one = letters_over g deals s elements es r in
      let rest = all_letters g deals s elements es reads in
      let same : (letters ++ one) ++ rest ≡ letters ++ (one ++ rest) = append_assoc letters one rest in
      let room' : Room depth ((letters ++ one) ++ rest) = subst (Room depth) (sym same) room in
      goes_append (ships_go r elements held es letters (room_front depth (letters ++ one) rest room'))
      (goes_to (ap (memory_of elements held) same) (all_ships_go es elements held reads (letters ++ one) room'))

  all_adds_go : (es : List Iteration) (elements : Element → V) (reads : List ReadTerm) (held : Element → V)
      → Goes k depth (memory_of elements held (all_letters g deals s elements es reads)) (flat_map (λ t. flat_map (event_in g deals s t) es) (map Add reads))
      (memory_of elements (fold (terms_held k s elements es) held reads) [])
  all_adds_go es elements [] held = goes_nowhere
  all_adds_go es elements (r ∷ reads) held =
      goes_append (adds_go r elements es held (all_letters g deals s elements es reads)) (all_adds_go es elements reads (terms_held k s elements es held r))

  -- task by task over all iterations
  pub together_goes : (es : List Iteration) (elements held : Element → V) → Room depth (all_letters g deals s elements es s.reads)
      → Goes k depth (memory_of elements held []) (flat_map (λ t. flat_map (event_in g deals s t) es) (tasks_of s))
      (memory_of (all_stored s (values_held k s elements es held) elements es) (values_held k s elements es held) [])
  together_goes es elements held room =
      let events : (Task → List Event) = λ t. flat_map (event_in g deals s t) es in
      let letters = all_letters g deals s elements es s.reads in
      let based = bases_held k s held es in
      let adds : List Task = map Add s.reads ++ (Store ∷ []) in
      goes_by (flat_map-append events (map Ship s.reads) (Base ∷ adds))
      (goes_append (all_ships_go es elements held s.reads [] room)
      (goes_append (bases_go es elements held letters)
      (goes_by (flat_map-append events (map Add s.reads) (Store ∷ []))
      (goes_append (all_adds_go es elements s.reads based) (goes_append (stores_go es elements (values_held k s elements es held) []) goes_nowhere)))))

  -- in one iteration: the reads, each shipped and added, and the store
  reads_go : (e : Iteration) (elements : Element → V) (reads : List ReadTerm) (held : Element → V) → ((r : ReadTerm) → In r reads → Room depth (letter_of g deals s elements r e))
      → Goes k depth (memory_of elements held []) (flat_map (λ t. event_in g deals s t e) (flat_map (λ r. Ship r ∷ (Add r ∷ [])) reads ++ (Store ∷ [])))
      (memory_of (all_stored s (fold (terms_held k s elements (e ∷ [])) held reads) elements (e ∷ [])) (fold (terms_held k s elements (e ∷ [])) held reads) [])
  reads_go e elements [] held room = goes_append (store_goes k depth g deals s e elements held []) goes_nowhere
  reads_go e elements (r ∷ reads) held room =
      let one = letter_of g deals s elements r e in
      goes_append
      (ship_goes k depth g deals s r e elements held []
      (ship_room depth [] [] (sender g deals r e) (receiver g deals s e) (elements (element_at r.source e)) (eqb (sender g deals r e) (receiver g deals s e)) (subst (Room depth) (sym (append-nil one)) (room r (inl refl)))))
      (goes_append (goes_from (ap (memory_of elements held) (sym (append-nil one))) (add_goes k depth g deals s r e elements held []))
      (reads_go e elements reads (terms_held k s elements (e ∷ []) held r) (λ x m. room x (inr m))))

  -- one iteration whole
  pub iteration_goes : (e : Iteration) (elements held : Element → V) → ((r : ReadTerm) → In r s.reads → Room depth (letter_of g deals s elements r e))
      → Goes k depth (memory_of elements held []) (flat_map (λ t. event_in g deals s t e) (pass_tasks s))
      (memory_of (all_stored s (values_held k s elements (e ∷ []) held) elements (e ∷ [])) (values_held k s elements (e ∷ []) held) [])
  iteration_goes e elements held room = goes_append (base_goes k depth g deals s e elements held []) (reads_go e elements s.reads (bases_held k s held (e ∷ [])) room)
