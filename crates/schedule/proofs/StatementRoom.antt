-- The compiled depth of a statement has room for its letters. Assumes nothing.
use Rattle.std.proofs.Common.{◌≡◌, ℕ, zero, suc, ◌+◌, ◌<◌, ◌≤◌, min, Bool, true, false, cond, ◌&&◌, eqb, ◌⊎◌, List, [], ◌∷◌, ◌++◌, map, length, filter, refl, ap, ◌∙◌, inl, inr, ⊎_elim, arith, length-append}
use Rattle.std.specs.List.{range_with_len, flat_map}
use Rattle.std.proofs.lemmas.List.Elements.{filter-append}
use Rattle.std.proofs.lemmas.Bool.{cases_eq, cases_lt, ne_eqb, and_left, and_right}
use Rattle.nest.specs.Terms.{Said}
use Rattle.nest.specs.declared.terms.Grid.{Grid}
use Rattle.nest.specs.declared.terms.Mode.{Mode}
use Rattle.nest.specs.declared.terms.Mode.TheVariants.{All, Seq}
use Rattle.nest.specs.declared.terms.ReadTerm.{ReadTerm}
use Rattle.sections.specs.Order.{Element}
use Rattle.sections.specs.Sections.{Deals}
use Rattle.sequential.specs.Iterations.{iterations}
use Rattle.sequential.specs.Laws.{In}
use Rattle.sequential.specs.declared.iteration.Iteration.{Iteration}
use Rattle.compiler.specs.Spans.{seat}
use Rattle.compiler.specs.Cells.{element_at}
use Rattle.compiler.specs.Totals.{boards_of, letter_in, letters_for, letters_in, between, room_for, statement_depth}
use Rattle.schedule.proofs.EventLists.{in_mapped, greatest_from}
use Rattle.schedule.proofs.WaitingLetters.{Waiting, rows_in, rows_append, eqb_turned}
use Rattle.schedule.proofs.TaskEvents.{receiver, sender, letter_of}
use Rattle.schedule.proofs.StatementPasses.{Room, letters_over, all_letters}

-- what is in a part is in the whole
in_right : {X : Type 0} (x : X) (xs ys : List X) → In x ys → In x (xs ++ ys)
in_right x [] ys m = m
in_right x (y ∷ xs) ys m = inr (in_right x xs ys m)

in_left : {X : Type 0} (x : X) (xs ys : List X) → In x xs → In x (xs ++ ys)
in_left x [] ys m = absurd m
in_left x (y ∷ xs) ys (inl e) = inl e
in_left x (y ∷ xs) ys (inr m) = inr (in_left x xs ys m)

in_joined : {X Y : Type 0} (f : X → List Y) (x : X) (y : Y) (xs : List X) → In x xs → In y (f x) → In y (flat_map f xs)
in_joined f x y [] m l = absurd m
in_joined f x y (z ∷ xs) (inl e) l = in_left y (f z) (flat_map f xs) (rw e at l)
in_joined f x y (z ∷ xs) (inr m) l = in_right y (f z) (flat_map f xs) (in_joined f x y xs m l)

in_counting_from : (n a x : ℕ) → a ≤ x → x < a + n → In x (range_with_len a n)
in_counting_from zero a x h l = absurd (omega arith)
in_counting_from (suc n) a x h l = ⊎_elim (λ p. inl p) (λ ne. inr (in_counting_from n (a + 1) x (omega arith) (omega arith))) (cases_eq x a)

-- the letters of a pair in lists in succession
between_append : (p q : ℕ) (xs ys : List (ℕ × ℕ)) → between p q (xs ++ ys) ≡ between p q xs + between p q ys
between_append p q xs ys =
    ap length (filter-append (λ l. eqb l.0 p && eqb l.1 q) xs ys)
    ∙ length-append (filter (λ l. eqb l.0 p && eqb l.1 q) xs) (filter (λ l. eqb l.0 p && eqb l.1 q) ys)

-- a part has no more than the whole, and the whole has none if no part has
between_part : {X : Type 0} (p q : ℕ) (f : X → List (ℕ × ℕ)) (xs : List X) (x : X) → In x xs → between p q (f x) ≤ between p q (flat_map f xs)
between_part p q f [] x m = absurd m
between_part p q f (y ∷ xs) x (inl e) = omega (arith, between_append p q (f y) (flat_map f xs), ap (λ z. between p q (f z)) e)
between_part p q f (y ∷ xs) x (inr m) = omega (arith, between_append p q (f y) (flat_map f xs), between_part p q f xs x m)

between_none : {X : Type 0} (p q : ℕ) (f : X → List (ℕ × ℕ)) (xs : List X) → ((x : X) → In x xs → between p q (f x) ≡ 0) → between p q (flat_map f xs) ≡ 0
between_none p q f [] none = refl
between_none p q f (y ∷ xs) none =
    omega (arith, between_append p q (f y) (flat_map f xs), none y (inl refl), between_none p q f xs (λ x m. none x (inr m)))

-- rows are as long as the letters of their pairs are many
rows_between : {V X : Type 0} (p q : ℕ) (f : X → List (Waiting V)) (g : X → List (ℕ × ℕ)) → ((x : X) → length (rows_in (f x) p q) ≡ between p q (g x)) → (xs : List X)
    → length (rows_in (flat_map f xs) p q) ≡ between p q (flat_map g xs)
rows_between p q f g same [] = refl
rows_between p q f g same (x ∷ xs) =
    omega (arith, ap length (rows_append (f x) (flat_map f xs) p q), length-append (rows_in (f x) p q) (rows_in (flat_map f xs) p q), between_append p q (g x) (flat_map g xs), same x, rows_between p q f g same xs)

single_row : {V : Type 0} (p q a b : ℕ) (v : V) (t : Bool) → length (rows_in (cond t [] ((a, b, v) ∷ [])) p q) ≡ between p q (cond t [] ((a, b) ∷ []))
single_row p q a b v true = refl
single_row p q a b v false = rw (eqb_turned p a, eqb_turned q b) (as_long (eqb a p && eqb b q))
  where
    as_long : (u : Bool) → length (cond u (v ∷ []) []) ≡ length {A = ℕ × ℕ} (cond u ((a, b) ∷ []) [])
    as_long true = refl
    as_long false = refl

-- a row of one letter is short
single_short : {V : Type 0} (p q a b : ℕ) (v : V) (t : Bool) → length (rows_in (cond t [] ((a, b, v) ∷ [])) p q) ≤ 1
single_short p q a b v true = omega arith
single_short p q a b v false = short (eqb p a && eqb q b)
  where
    short : (u : Bool) → length (cond u (v ∷ []) []) ≤ 1
    short true = omega arith
    short false = omega arith

-- no letter of a pair of which one is not a board
strange_pair : (boards p q a b : ℕ) (t : Bool) → a < boards → b < boards → (boards ≤ p) ⊎ (boards ≤ q) → between p q (cond t [] ((a, b) ∷ [])) ≡ 0
strange_pair boards p q a b true ha hb out = refl
strange_pair boards p q a b false ha hb (inl h) = ap (λ t. length {A = ℕ × ℕ} (cond t ((a, b) ∷ []) [])) (and_left (eqb a p) (eqb b q) (ne_eqb a p (λ e. omega arith)))
strange_pair boards p q a b false ha hb (inr h) = ap (λ t. length {A = ℕ × ℕ} (cond t ((a, b) ∷ []) [])) (and_right (eqb a p) (eqb b q) (ne_eqb b q (λ e. omega arith)))

room_for_none : (mode : Mode) (n depth : ℕ) → n ≡ 0 → room_for mode n ≤ depth
room_for_none All n depth p = omega arith
room_for_none Seq n depth p = omega arith

module _ (grid : Grid) (deals : Deals) (s : Said) where
  -- the pair of every letter is one of boards
  abbrev pub BoardsIn : Type 0
  BoardsIn = (e : Iteration) → In e (iterations s.i s.j)
      → (receiver grid.rows deals s e < boards_of grid) × ((r : ReadTerm) → In r s.reads → sender grid.rows deals r e < boards_of grid)

  -- the depth is enough for every pair
  pub pair_has_room : BoardsIn → (p q : ℕ) → room_for s.mode (between p q (letters_in (seat grid.rows deals 0) s)) ≤ statement_depth grid deals s
  pair_has_room boards p q =
      ⊎_elim (λ hp. ⊎_elim (λ hq. member hp hq) (λ out. none (inr out)) (cases_lt q (boards_of grid))) (λ out. none (inl out)) (cases_lt p (boards_of grid))
    where
      wanted : ℕ → ℕ → ℕ
      wanted p q = room_for s.mode (between p q (letters_in (seat grid.rows deals 0) s))

      member : p < boards_of grid → q < boards_of grid → wanted p q ≤ statement_depth grid deals s
      member hp hq =
          let all = range_with_len 0 (boards_of grid) in
          greatest_from (flat_map (λ p. map (wanted p) all) all) 0 (wanted p q)
          (inr (in_joined (λ p. map (wanted p) all) p (wanted p q) all (in_counting_from (boards_of grid) 0 p (omega arith) (omega arith)) (in_mapped (wanted p) q all (in_counting_from (boards_of grid) 0 q (omega arith) (omega arith)))))

      none : (boards_of grid ≤ p) ⊎ (boards_of grid ≤ q) → wanted p q ≤ statement_depth grid deals s
      none out =
          room_for_none s.mode (between p q (letters_in (seat grid.rows deals 0) s)) (statement_depth grid deals s)
          (between_none p q (letters_for (seat grid.rows deals 0) s) s.reads (λ r m. between_none p q (letter_in (seat grid.rows deals 0) s r) (iterations s.i s.j) (λ e l.
          strange_pair (boards_of grid) p q (sender grid.rows deals r e) (receiver grid.rows deals s e) (eqb (sender grid.rows deals r e) (receiver grid.rows deals s e)) ((boards e l).1 r m) (boards e l).0 out)))

-- with so much room for every pair, all letters at once find room, or each alone
module _ {V : Type 0} (depth g : ℕ) (deals : Deals) (s : Said) (elements : Element → V) where
  letter_count : (p q : ℕ) (r : ReadTerm) (e : Iteration) → length (rows_in (letter_of g deals s elements r e) p q) ≡ between p q (letter_in (seat g deals 0) s r e)
  letter_count p q r e = single_row p q (sender g deals r e) (receiver g deals s e) (elements (element_at r.source e)) (eqb (sender g deals r e) (receiver g deals s e))

  pub room_together : ((p q : ℕ) → between p q (letters_in (seat g deals 0) s) ≤ depth) → Room depth (all_letters g deals s elements (iterations s.i s.j) s.reads)
  room_together room p q =
      let es = iterations s.i s.j in
      omega (arith, room p q, rows_between p q (letters_over g deals s elements es) (letters_for (seat g deals 0) s) (λ r. rows_between p q (letter_of g deals s elements r) (letter_in (seat g deals 0) s r) (letter_count p q r) es) s.reads)

  pub room_alone : ((p q : ℕ) → min (between p q (letters_in (seat g deals 0) s)) 1 ≤ depth) → (e : Iteration) → In e (iterations s.i s.j) → (r : ReadTerm) → In r s.reads
      → Room depth (letter_of g deals s elements r e)
  room_alone room e l r m p q =
      let short = single_short p q (sender g deals r e) (receiver g deals s e) (elements (element_at r.source e)) (eqb (sender g deals r e) (receiver g deals s e)) in
      omega (arith, room p q, letter_count p q r e, between_part p q (letter_in (seat g deals 0) s r) (iterations s.i s.j) e l, between_part p q (letters_for (seat g deals 0) s) s.reads r m)
