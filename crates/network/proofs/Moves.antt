-- A network has the diamond: another board's move leaves what a board can do as it was, and two moves commute.
use Rattle.std.proofs.Common.{◌≡◌, ℕ, ◌<◌, ◌≤◌, Bool, true, false, cond, ◌&&◌, eqb, ltb, ◌≢◌, ◌⊎◌, List, [], ◌∷◌, ◌++◌, length, sym, refl, ap, ◌∙◌, subst, inl, inr, append-nil, arith}
use mathlib.Core.Path.{fun_ext}
use Rattle.std.proofs.lemmas.Bool.Decides.{nat_tests}
use Rattle.std.proofs.lemmas.Bool.{ltb-true, cases_Bool}
use Rattle.network.specs.Network.{Step, ends, goes_on, puts, takes, Network, State}
use Rattle.network.specs.Request.{Move, Decision, absent, waits_for, moves, joined, without_oldest, taking, able, decide, replaced, changed, moved, answer, leaves, request}
use Rattle.network.specs.Runs.{is_ran, WouldRun}
use Rattle.network.specs.Laws.{Undisturbed}
use Rattle.network.specs.declared.answer.Answer.TheVariants.{Ran}

-- Two functions of boards, or of pairs of boards, changed at two places.

pub replaced_swap : {X : Type 0} (p q : ℕ) (a b : X) (f : ℕ → X) → p ≢ q
    → replaced q b (replaced p a f) ≡ replaced p a (replaced q b f)
unfolding replaced
replaced_swap p q a b f ne = fun_ext (λ i. grind (arith, nat_tests))

pub changed_swap : {X : Type 0} (i j k l : ℕ) (g h : X → X) (f : ℕ → ℕ → X)
    → (i ≡ k → j ≡ l → h (g (f i j)) ≡ g (h (f i j)))
    → changed k l h (changed i j g f) ≡ changed i j g (changed k l h f)
unfolding changed
changed_swap i j k l g h f same = fun_ext (λ x. fun_ext (λ y. grind (arith, nat_tests, same)))

pub replaced_other : {X : Type 0} (p q : ℕ) (a : X) (f : ℕ → X) → q ≢ p → replaced p a f q ≡ f q
unfolding replaced
replaced_other p q a f ne = grind (arith, nat_tests)

-- The two letters of a row that a put and a take see are apart where a letter waits.
join_then_leave : {L : Type 0} (x : L) (row : List L) → row ≢ [] → without_oldest (joined x row) ≡ joined x (without_oldest row)
unfolding joined without_oldest
join_then_leave x [] ne = absurd (ne refl)
join_then_leave x (y ∷ row) ne = refl

-- What a move of board p can be: its row is its own, or p is the sender and a letter joins, or p is the receiver and a
-- letter that waits leaves.
pub data Shape {L S : Type 0} (row : ℕ → ℕ → List L) (p : ℕ) (m : Move L S) : Type 0 where
  own_row : m.sender ≡ p → m.receiver ≡ p → m.change ≡ (λ r. r) → Shape row p m
  a_put : m.sender ≡ p → (x : L) → m.change ≡ joined x → Shape row p m
  a_take : m.receiver ≡ p → row m.sender m.receiver ≢ [] → m.change ≡ without_oldest → Shape row p m

-- Two moves of different boards that touch one row: one puts and the other takes, and a letter waits.
changes_commute : {L S : Type 0} (row : ℕ → ℕ → List L) (p q : ℕ) (k m : Move L S) → p ≢ q → Shape row p k → Shape row q m
    → k.sender ≡ m.sender → k.receiver ≡ m.receiver
    → m.change (k.change (row k.sender k.receiver)) ≡ k.change (m.change (row k.sender k.receiver))
changes_commute row p q k m ne (own_row a b c) (own_row a' b' c') e f = absurd (ne (sym a ∙ e ∙ a'))
changes_commute row p q k m ne (own_row a b c) (a_put a' x c') e f = absurd (ne (sym a ∙ e ∙ a'))
changes_commute row p q k m ne (own_row a b c) (a_take b' w c') e f = absurd (ne (sym b ∙ f ∙ b'))
changes_commute row p q k m ne (a_put a x c) (own_row a' b' c') e f = absurd (ne (sym a ∙ e ∙ a'))
changes_commute row p q k m ne (a_put a x c) (a_put a' y c') e f = absurd (ne (sym a ∙ e ∙ a'))
changes_commute row p q k m ne (a_put a x c) (a_take b' w c') e f =
    let w' : row k.sender k.receiver ≢ [] = λ z. w (rw (← e, ← f) z) in
    rw (c, c') (join_then_leave x (row k.sender k.receiver) w')
changes_commute row p q k m ne (a_take b w c) (own_row a' b' c') e f = absurd (ne (sym b ∙ f ∙ b'))
changes_commute row p q k m ne (a_take b w c) (a_put a' x c') e f =
    rw (c, c') (sym (join_then_leave x (row k.sender k.receiver) w))
changes_commute row p q k m ne (a_take b w c) (a_take b' w' c') e f = absurd (ne (sym b ∙ f ∙ b'))

pub moved_swap : {L S : Type 0} (s : State L S) (p q : ℕ) (k m : Move L S) → p ≢ q → Shape s.row p k → Shape s.row q m
    → moved q m (moved p k s) ≡ moved p k (moved q m s)
unfolding moved
moved_swap s p q k m ne a b =
    let own = replaced_swap p q k.after m.after s.own ne in
    let row = changed_swap k.sender k.receiver m.sender m.receiver k.change m.change s.row (changes_commute s.row p q k m ne a b) in
    λ i. record { own = own i; row = row i }

-- Another board's move only shortens the rows that a board puts into, and only lengthens those that it takes from.

shorter : {L : Type 0} (row : List L) → length (without_oldest row) ≤ length row
unfolding without_oldest
shorter [] = omega arith
shorter (x ∷ row) = omega arith

no_longer : {L S : Type 0} (row : ℕ → ℕ → List L) (p q y : ℕ) (k : Move L S) → p ≢ q → Shape row p k
    → length (changed k.sender k.receiver k.change row q y) ≤ length (row q y)
unfolding changed
no_longer row p q y k ne (own_row a _ _) = grind (arith, nat_tests)
no_longer row p q y k ne (a_put a _ _) = grind (arith, nat_tests)
no_longer row p q y k ne (a_take _ _ c) = rw c (grind (arith, nat_tests, shorter))

still_begins : {L S : Type 0} (row : ℕ → ℕ → List L) (p q y : ℕ) (k : Move L S) → p ≢ q → Shape row p k
    → (more : List L) × (changed k.sender k.receiver k.change row y q ≡ row y q ++ more)
unfolding changed joined
still_begins row p q y k ne (own_row _ a _) = ([], grind (arith, nat_tests, append-nil))
still_begins row p q y k ne (a_put _ x c) = pick (cases_Bool (eqb y k.sender && eqb q k.receiver))
  where
    pick : (eqb y k.sender && eqb q k.receiver ≡ true) ⊎ (eqb y k.sender && eqb q k.receiver ≡ false)
        → (more : List _) × (cond (eqb y k.sender && eqb q k.receiver) (k.change (row y q)) (row y q) ≡ row y q ++ more)
    pick (inl t) = (x ∷ [], rw (t, c) refl)
    pick (inr f) = ([], rw f (sym (append-nil (row y q))))
still_begins row p q y k ne (a_take a _ _) = ([], grind (arith, nat_tests, append-nil))

-- So a board that can move still can, by the same move; and it can where rows may be deeper.

put_keeps : {L S : Type 0} (long short depth deeper y : ℕ) (k m : Move L S) → short ≤ long → depth ≤ deeper
    → cond (ltb long depth) (moves k) (waits_for y) ≡ moves m → cond (ltb short deeper) (moves k) (waits_for y) ≡ moves m
put_keeps long short depth deeper y k m le deep h = grind (arith, nat_tests)

take_keeps : {L S : Type 0} (q y : ℕ) (go : L → S) (m : Move L S) (row more : List L)
    → taking q y go row ≡ moves m → taking q y go (row ++ more) ≡ moves m
unfolding taking
take_keeps q y go m [] more h = cc
take_keeps q y go m (x ∷ row) more h = h

able_keeps : {L S : Type 0} (depth deeper : ℕ) (row row' : ℕ → ℕ → List L) (q : ℕ) (step : Step L S) (m : Move L S) → depth ≤ deeper
    → ((y : ℕ) → length (row' q y) ≤ length (row q y))
    → ((y : ℕ) → (more : List L) × (row' y q ≡ row y q ++ more))
    → able depth row q step ≡ moves m → able deeper row' q step ≡ moves m
unfolding able
able_keeps depth deeper row row' q (puts y x t) m deep shorts longs h =
    put_keeps (length (row q y)) (length (row' q y)) depth deeper y (record { after = t; sender = q; receiver = y; change = joined x }) m (shorts y) deep h
able_keeps depth deeper row row' q (takes y go) m deep shorts longs h =
    ap (taking q y go) (longs y).1 ∙ take_keeps q y go m (row y q) (longs y).0 h
able_keeps depth deeper row row' q _ m deep shorts longs h = h

within : {L S : Type 0} (b : Bool) (a a' : Decision L S) (m : Move L S) → (a ≡ moves m → a' ≡ moves m)
    → cond b a absent ≡ moves m → cond b a' absent ≡ moves m
within true a a' m f h = f h
within false a a' m f h = h

pub decide_keeps : {L S : Type 0} (net : Network L S) (depth : ℕ) (s : State L S) (p q : ℕ) (k m : Move L S) → p ≢ q
    → Shape s.row p k → decide net depth s q ≡ moves m → decide net depth (moved p k s) q ≡ moves m
unfolding decide moved
decide_keeps net depth s p q k m ne shape =
    within (ltb q net.boards) _ _ m (λ h. ap (λ t. able depth (changed k.sender k.receiver k.change s.row) q (net.next q t)) (replaced_other p q k.after s.own (λ e. ne (sym e))) ∙ able_keeps depth depth s.row _ q (net.next q (s.own q)) m (omega arith) (λ y. no_longer s.row p q y k ne shape) (λ y. still_begins s.row p q y k ne shape) h)

pub decide_deeper : {L S : Type 0} (net : Network L S) (depth deeper : ℕ) (s : State L S) (p : ℕ) (m : Move L S) → depth ≤ deeper
    → decide net depth s p ≡ moves m → decide net deeper s p ≡ moves m
unfolding decide
decide_deeper net depth deeper s p m deep =
    within (ltb p net.boards) _ _ m (able_keeps depth deeper s.row s.row p (net.next p (s.own p)) m deep (λ y. omega arith) (λ y. ([], sym (append-nil (s.row y p)))))

-- A move that was decided on has one of the three shapes.

abbrev Shaped : {L S : Type 0} → (ℕ → ℕ → List L) → ℕ → Decision L S → Type 0
Shaped row p (moves m) = Shape row p m
Shaped row p _ = Unit {0}

put_shaped : {L S : Type 0} (row : ℕ → ℕ → List L) (p q : ℕ) (x : L) (t : S) (b : Bool)
    → Shaped row p (cond b (moves (record { after = t; sender = p; receiver = q; change = joined x })) (waits_for q))
put_shaped row p q x t true = a_put refl x refl
put_shaped row p q x t false = tt

take_shaped : {L S : Type 0} (row : ℕ → ℕ → List L) (p q : ℕ) (go : L → S) (r : List L) → row q p ≡ r → Shaped row p (taking p q go r)
unfolding taking
take_shaped row p q go [] e = tt
take_shaped row p q go (x ∷ r) e = a_take refl (λ z. cc) refl

able_shaped : {L S : Type 0} (depth : ℕ) (row : ℕ → ℕ → List L) (p : ℕ) (step : Step L S) → Shaped row p (able depth row p step)
unfolding able
able_shaped depth row p ends = tt
able_shaped depth row p (goes_on t) = own_row refl refl refl
able_shaped depth row p (puts q x t) = put_shaped row p q x t (ltb (length (row p q)) depth)
able_shaped depth row p (takes q go) = take_shaped row p q go (row q p) refl

within_shaped : {L S : Type 0} (row : ℕ → ℕ → List L) (p : ℕ) (b : Bool) (a : Decision L S) → Shaped row p a → Shaped row p (cond b a absent)
within_shaped row p true a h = h
within_shaped row p false a h = tt

pub decided_shape : {L S : Type 0} (net : Network L S) (depth : ℕ) (s : State L S) (p : ℕ) (m : Move L S)
    → decide net depth s p ≡ moves m → Shape s.row p m
unfolding decide
decided_shape net depth s p m e =
    subst (Shaped s.row p) e (within_shaped s.row p (ltb p net.boards) _ (able_shaped depth s.row p (net.next p (s.own p))))

-- What a request is, by its decision.

ran_by : {L S : Type 0} (d : Decision L S) → answer d ≡ Ran → (m : Move L S) × (d ≡ moves m)
unfolding answer
ran_by (moves m) h = (m, refl)
ran_by _ h = cc

pub would_run_by : {L S : Type 0} (net : Network L S) (depth : ℕ) (s : State L S) (p : ℕ) → WouldRun (request net depth) s p
    → (m : Move L S) × (decide net depth s p ≡ moves m)
unfolding request
would_run_by net depth s p h = ran_by (decide net depth s p) h

pub request_of_move : {L S : Type 0} (net : Network L S) (depth : ℕ) (s : State L S) (p : ℕ) (m : Move L S)
    → decide net depth s p ≡ moves m → request net depth s p ≡ (Ran, moved p m s)
unfolding request answer leaves
request_of_move net depth s p m e = ap (λ d. (answer d, leaves p d s)) e

stays : {L S : Type 0} (p : ℕ) (s : State L S) (d : Decision L S) → is_ran (answer d) ≡ 0 → leaves p d s ≡ s
unfolding leaves answer
stays p s (moves m) h = absurd (omega (arith, h))
stays p s _ h = refl

pub request_stays : {L S : Type 0} (net : Network L S) (depth : ℕ) (s : State L S) (p : ℕ)
    → is_ran (request net depth s p).0 ≡ 0 → (request net depth s p).1 ≡ s
unfolding request
request_stays net depth s p h = stays p s (decide net depth s p) h

inside_by : {L S : Type 0} (p n : ℕ) (a : Decision L S) (b : Bool) → ltb p n ≡ b → answer (cond b a absent) ≡ Ran → p < n
unfolding answer
inside_by p n a true e h = ltb-true p n e
inside_by p n a false e h = cc

pub request_inside : {L S : Type 0} (net : Network L S) (depth : ℕ) (s : State L S) (p : ℕ)
    → WouldRun (request net depth) s p → p < net.boards
unfolding request decide
request_inside net depth s p h = inside_by p net.boards _ (ltb p net.boards) refl h

-- The diamond.
pub undisturbed : {L S : Type 0} (net : Network L S) (depth : ℕ) (s : State L S) (p q : ℕ) → p ≢ q
    → WouldRun (request net depth) s p → WouldRun (request net depth) s q → Undisturbed (request net depth) s p q
undisturbed net depth s p q ne hp hq =
    let (k, dp) = would_run_by net depth s p hp in
    let (m, dq) = would_run_by net depth s q hq in
    let sp = decided_shape net depth s p k dp in
    let sq = decided_shape net depth s q m dq in
    let ep = request_of_move net depth s p k dp in
    let eq = request_of_move net depth s q m dq in
    let p-after = request_of_move net depth (moved q m s) p k (decide_keeps net depth s q p m k (λ e. ne (sym e)) sq dp) in
    let q-after = request_of_move net depth (moved p k s) q m (decide_keeps net depth s p q k m ne sp dq) in
    record {
      first_still_runs = ap (λ r. (request net depth r.1 p).0) eq ∙ ap (λ r. r.0) p-after;
      second_still_runs = ap (λ r. (request net depth r.1 q).0) ep ∙ ap (λ r. r.0) q-after;
      one_state =
          ap (λ r. (request net depth r.1 q).1) ep ∙ ap (λ r. r.1) q-after ∙ moved_swap s p q k m ne sp sq
          ∙ sym (ap (λ r. (request net depth r.1 p).1) eq ∙ ap (λ r. r.1) p-after);
    }
