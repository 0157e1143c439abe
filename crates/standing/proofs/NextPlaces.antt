-- The place after a place, and what is left from there. Assumes nothing.
use Rattle.std.proofs.Common.{◌≡◌, ℕ, ◌+◌, ◌-◌, ◌<◌, ◌≤◌, Bool, true, false, cond, ltb, List, ◌∷◌, ◌++◌, Some, None, Option, sym, refl, ap, ◌∙◌, ap₂, arith}
use Rattle.std.specs.List.{range_with_len, flat_map}
use Rattle.std.proofs.lemmas.List.{append_assoc}
use Rattle.std.proofs.lemmas.Bool.{lt-ltb, ltb-true, ltb-false}
use Rattle.nest.specs.Terms.{Said, Sheet}
use Rattle.compiler.specs.declared.order.Order.{Order}
use Rattle.compiler.specs.Spans.{Seat}
use Rattle.compiler.specs.Deeds.{Deed}
use Rattle.standing.specs.declared.place.Phase.{Phase}
use Rattle.standing.specs.declared.place.Place.{Place}
use Rattle.standing.specs.Left.{cell_deeds, cell_in, row_deeds, order_at, statement_of, sweeps_left, todo_from, todo_of, in_program, deed_at}
use Rattle.standing.specs.Moves.{Leaves, StandsIn, after_cell, cell_after, phase_after, reads_of}
use Rattle.standing.proofs.CellLists.{counting_more, counting_none}
use Rattle.standing.proofs.FirstPlaces.{cell_place, cell_left, row_left}
use Rattle.standing.proofs.PhaseSteps.{first_goes, phase_follows, phase_step, rest_of, Follows}
use Rattle.standing.proofs.PlaceTests.{placed, from_placed}

module _ (n : Sheet) (orders : List Order) (at : Place) where
  -- the order of the place, its statement, and how many reads that has
  abbrev pub o : Order
  o = order_at orders at.order

  abbrev pub st : Said
  st = statement_of n o

  abbrev pub reads : ℕ
  reads = reads_of n o

  -- the first place of another cell of the same order
  abbrev pub cell_over : ℕ → ℕ → Place
  cell_over i j = cell_place at.sweep at.order st o i j

  -- with j one on, the rest of the row is left
  pub next_cell : at.j + 1 < o.j.end → Leaves n orders (Some (cell_over at.i (at.j + 1))) (λ b. after_cell b n orders at)
  next_cell more b =
      ap (λ l. l ++ sweeps_left b n orders at.sweep (at.order + 1)) (cell_left b st o at.sweep at.order at.i (at.j + 1)
      ∙ sym (append_assoc (cell_deeds b st o at.i (at.j + 1)) (flat_map (cell_deeds b st o at.i) (range_with_len (at.j + 1 + 1) (o.j.end - (at.j + 1 + 1)))) rows)
      ∙ ap (λ js. flat_map (cell_deeds b st o at.i) js ++ rows) (sym (counting_more (at.j + 1) o.j.end more)))
    where
      rows : List Deed
      rows = flat_map (row_deeds b st o) (range_with_len (at.i + 1) (o.i.end - (at.i + 1)))

  -- at the end of a row, with i one on, the rest of the order is left
  pub next_row : ltb o.j.first o.j.end ≡ true → o.j.end ≤ at.j + 1 → at.i + 1 < o.i.end
      → Leaves n orders (Some (cell_over (at.i + 1) o.j.first)) (λ b. after_cell b n orders at)
  next_row cells last more b =
      ap (λ l. l ++ sweeps_left b n orders at.sweep (at.order + 1)) (row_left b st o at.sweep at.order (at.i + 1) cells
      ∙ ap₂ (λ js is. flat_map (cell_deeds b st o at.i) js ++ flat_map (row_deeds b st o) is) (sym (counting_none (at.j + 1) o.j.end last)) (sym (counting_more (at.i + 1) o.i.end more)))

  -- at the end of the last row, the orders after it are left
  pub next_order : (r : Option Place) → o.j.end ≤ at.j + 1 → o.i.end ≤ at.i + 1
      → Leaves n orders r (λ b. sweeps_left b n orders at.sweep (at.order + 1)) → Leaves n orders r (λ b. after_cell b n orders at)
  next_order r last bottom left b =
      left b
      ∙ ap₂ (λ js is. (flat_map (cell_deeds b st o at.i) js ++ flat_map (row_deeds b st o) is) ++ sweeps_left b n orders at.sweep (at.order + 1))
      (sym (counting_none (at.j + 1) o.j.end last)) (sym (counting_none (at.i + 1) o.i.end bottom))

  -- those cells are the program's
  pub next_cell_in : in_program n orders at ≡ true → at.j + 1 < o.j.end → StandsIn n orders (Some (cell_over at.i (at.j + 1)))
  next_cell_in h more =
      let p = placed n orders at h in
      from_placed n orders (cell_over at.i (at.j + 1)) (record {
        early = p.early;
        there = p.there;
        i_from = p.i_from;
        i_below = p.i_below;
        j_from = omega (arith, p.j_from);
        j_below = more;
        goes = first_goes o.work reads;
      })

  pub next_row_in : in_program n orders at ≡ true → at.i + 1 < o.i.end → StandsIn n orders (Some (cell_over (at.i + 1) o.j.first))
  next_row_in h more =
      let p = placed n orders at h in
      from_placed n orders (cell_over (at.i + 1) o.j.first) (record {
        early = p.early;
        there = p.there;
        i_from = omega (arith, p.i_from);
        i_below = more;
        j_from = omega arith;
        j_below = omega (arith, p.j_from, p.j_below);
        goes = first_goes o.work reads;
      })

  -- the next cell of the order has what is left after the cell
  pub to_cell : in_program n orders at ≡ true → (p : Place) → cell_after o reads at ≡ Some p
      → Leaves n orders (Some p) (λ b. after_cell b n orders at) × StandsIn n orders (Some p)
  to_cell h p is = step (ltb (at.j + 1) o.j.end) (ltb (at.i + 1) o.i.end) refl refl is
    where
      row : in_program n orders at ≡ true → ltb o.j.first o.j.end ≡ true
      row k = let known = placed n orders at k in lt-ltb o.j.first o.j.end (omega (arith, known.j_from, known.j_below))

      step : (t u : Bool) → ltb (at.j + 1) o.j.end ≡ t → ltb (at.i + 1) o.i.end ≡ u
          → cond t (Some (cell_over at.i (at.j + 1))) (cond u (Some (cell_over (at.i + 1) o.j.first)) None) ≡ Some p
          → Leaves n orders (Some p) (λ b. after_cell b n orders at) × StandsIn n orders (Some p)
      step true u e f s =
          let same : p ≡ cell_over at.i (at.j + 1) = cc in
          let more : at.j + 1 < o.j.end = ltb-true (at.j + 1) o.j.end e in
          (λ b. ap (todo_from b n orders) same ∙ next_cell more b, ap (in_program n orders) same ∙ next_cell_in h more)
      step false true e f s =
          let same : p ≡ cell_over (at.i + 1) o.j.first = cc in
          let more : at.i + 1 < o.i.end = ltb-true (at.i + 1) o.i.end f in
          let last : o.j.end ≤ at.j + 1 = ltb-false (at.j + 1) o.j.end e in
          (λ b. ap (todo_from b n orders) same ∙ next_row (row h) last more b, ap (in_program n orders) same ∙ next_row_in h more)
      step false false e f s = absurd cc

  -- without a next cell, the orders after it are left
  pub to_order : cell_after o reads at ≡ None → (r : Option Place)
      → Leaves n orders r (λ b. sweeps_left b n orders at.sweep (at.order + 1)) → Leaves n orders r (λ b. after_cell b n orders at)
  to_order is r left = step (ltb (at.j + 1) o.j.end) (ltb (at.i + 1) o.i.end) refl refl is
    where
      step : (t u : Bool) → ltb (at.j + 1) o.j.end ≡ t → ltb (at.i + 1) o.i.end ≡ u
          → cond t (Some (cell_over at.i (at.j + 1))) (cond u (Some (cell_over (at.i + 1) o.j.first)) None) ≡ None
          → Leaves n orders r (λ b. after_cell b n orders at)
      step true u e f s = absurd cc
      step false true e f s = absurd cc
      step false false e f s = next_order r (ltb-false (at.j + 1) o.j.end e) (ltb-false (at.i + 1) o.i.end f) left

  -- the same cell at another phase
  abbrev pub phase_over : Phase → Place
  phase_over q = record at { phase = q }

  -- a step, and what is left after it in its cell
  step_in_cell : in_program n orders at ≡ true → (b : Seat)
      → todo_from b n orders at
      ≡ deed_at b n orders at
      ∷ ((rest_of (cell_deeds b st o at.i at.j) reads (phase_after at.phase reads)
      ++ (flat_map (cell_deeds b st o at.i) (range_with_len (at.j + 1) (o.j.end - (at.j + 1)))
      ++ flat_map (row_deeds b st o) (range_with_len (at.i + 1) (o.i.end - (at.i + 1)))))
      ++ sweeps_left b n orders at.sweep (at.order + 1))
  step_in_cell h b =
      ap (λ l. (l ++ (flat_map (cell_deeds b st o at.i) (range_with_len (at.j + 1) (o.j.end - (at.j + 1)))
      ++ flat_map (row_deeds b st o) (range_with_len (at.i + 1) (o.i.end - (at.i + 1)))))
      ++ sweeps_left b n orders at.sweep (at.order + 1))
      (phase_step b st (cell_in b st o at.i at.j) o.work at.phase (placed n orders at h).goes)

  -- a step that is not the last of its cell
  pub step_to_phase : in_program n orders at ≡ true → (q : Phase) → phase_after at.phase reads ≡ Some q
      → (b : Seat) → todo_from b n orders at ≡ deed_at b n orders at ∷ todo_from b n orders (phase_over q)
  step_to_phase h q e b = rw e at (step_in_cell h b)

  -- the last step of a cell
  pub step_to_cell : in_program n orders at ≡ true → phase_after at.phase reads ≡ None → (r : Option Place) → Leaves n orders r (λ b. after_cell b n orders at)
      → (b : Seat) → todo_from b n orders at ≡ deed_at b n orders at ∷ todo_of b n orders r
  step_to_cell h e r left b = let whole = rw e at (step_in_cell h b) in whole ∙ ap (λ l. deed_at b n orders at ∷ l) (sym (left b))

  -- the next phase is the program's too
  pub phase_in : in_program n orders at ≡ true → (q : Phase) → phase_after at.phase reads ≡ Some q → StandsIn n orders (Some (phase_over q))
  phase_in h q e =
      let p = placed n orders at h in
      let follows : Follows o.work reads at.phase (Some q) = rw e at (phase_follows o.work reads at.phase p.goes) in
      from_placed n orders (phase_over q) (record {
        early = p.early;
        there = p.there;
        i_from = p.i_from;
        i_below = p.i_below;
        j_from = p.j_from;
        j_below = p.j_below;
        goes = follows.1;
      })

  -- what holds of where a board stands after a place
  pub record After (r : Option Place) : Type 0 where
    pub step : (b : Seat) → todo_from b n orders at ≡ deed_at b n orders at ∷ todo_of b n orders r
    pub there : StandsIn n orders r

  -- by the order that was read and the count of its reads: after a step that is not the last of its cell, after the last step
  -- of a cell that is not the last of its order, and after that of the last
  module _ (inside : in_program n orders at ≡ true) (found : Order) (count : ℕ) (same : o ≡ found) (counted : count ≡ reads_of n found) where
    own : reads ≡ count
    own = ap (reads_of n) same ∙ sym counted

    pub after_step : (q : Phase) → phase_after at.phase count ≡ Some q → After (Some (phase_over q))
    after_step q e =
        let next = ap (phase_after at.phase) own ∙ e in
        record { step = step_to_phase inside q next; there = phase_in inside q next }

    pub after_cell_step : phase_after at.phase count ≡ None → (p : Place) → cell_after found count at ≡ Some p → After (Some p)
    after_cell_step none p e =
        let moved = to_cell inside p (ap₂ (λ x m. cell_after x m at) same own ∙ e) in
        record { step = step_to_cell inside (ap (phase_after at.phase) own ∙ none) (Some p) moved.0; there = moved.1 }

    pub after_order_step : phase_after at.phase count ≡ None → cell_after found count at ≡ None → (r : Option Place)
        → Leaves n orders r (λ b. sweeps_left b n orders at.sweep (at.order + 1)) → StandsIn n orders r → After r
    after_order_step none last r left there = record {
      step = step_to_cell inside (ap (phase_after at.phase) own ∙ none) r (to_order (ap₂ (λ x m. cell_after x m at) same own ∙ last) r left);
      there = there;
    }
