-- A count of letters against the list of them.
use Rattle.std.proofs.Common.{◌≡◌, ℕ, ◌+◌, ◌<◌, ◌≤◌, Bool, true, false, cond, ◌&&◌, eqb, List, [], ◌∷◌, ◌++◌, map, length, get_or, take, fold, filter, sym, refl, ap, ◌∙◌, subst, ap₂, inl, inr, ⊎_elim, append_assoc, arith}
use Rattle.std.specs.List.{range_with_len, flat_map}
use Rattle.std.proofs.lemmas.List.FromFn.{fill_by_all}
use Rattle.std.proofs.lemmas.List.Elements.{filter-append}
use Rattle.std.proofs.lemmas.List.{append-nil, take_all, take_more, flat_map_more, length-append}
use Rattle.std.proofs.lemmas.Bool.{cases_Bool, and_parts, and_from, eq-eqb, eqb-true}
use Rattle.nest.specs.Terms.{Said}
use Rattle.nest.specs.declared.terms.ReadTerm.{ReadTerm}
use Rattle.sections.specs.Sections.{Deals}
use Rattle.sequential.specs.Iterations.{iterations}
use Rattle.sequential.specs.Laws.{In}
use Rattle.sequential.specs.Ready.{Within}
use Rattle.sequential.specs.declared.iteration.Iteration.{Iteration}
use Rattle.sequential.proofs.Targets.{in_iterations}
use Rattle.compiler.specs.declared.letters.LetterCount.{LetterCount}
use Rattle.compiler.specs.declared.owners.Owners.{Owners}
use Rattle.compiler.specs.LetterCounts.{sent_by, count_at, Square, one_more, noted, noting, AtMost}
use Rattle.compiler.specs.OwnerTables.{board_by, Tells}
use Rattle.compiler.specs.Spans.{seat}
use Rattle.compiler.specs.Totals.{letter_in, letters_for, letters_in, between}
use Rattle.compiler.proofs.LetterTables.{cases_pair, put, put_square, put_here, put_elsewhere, Noughts, noughts_square, noughts_at}

-- a count has the number of each pair in a list of letters, and of all
abbrev pub Tallied : LetterCount → List (ℕ × ℕ) → Type 0
Tallied c letters =
    Square c.pairs.counts × (c.letters ≡ length letters) × ((p q : ℕ) → p < 8 → q < 8 → count_at c.pairs.counts p q ≡ between p q letters)

-- the letter from p to q, if these are two boards
letter_of : ℕ → ℕ → List (ℕ × ℕ)
letter_of p q = cond (eqb p q) [] ((p, q) ∷ [])

length_if : {X : Type 0} (t : Bool) (x : X) → length (cond t (x ∷ []) []) ≡ cond t 1 0
length_if true x = refl
length_if false x = refl

between_push : (a b p q : ℕ) (letters : List (ℕ × ℕ)) → between a b (letters ++ (p, q) ∷ []) ≡ between a b letters + cond (eqb p a && eqb q b) 1 0
between_push a b p q letters =
    let test : ℕ × ℕ → Bool = λ l. eqb l.0 a && eqb l.1 b in
    ap length (filter-append test letters ((p, q) ∷ [])) ∙ length-append (filter test letters) (filter test ((p, q) ∷ []))
    ∙ ap (λ n. between a b letters + n) (length_if (eqb p a && eqb q b) (p, q))

-- a pair is counted by its own letter alone
same_pair : (x y p q : ℕ) → x ≡ p → y ≡ q → (eqb p x && eqb q y) ≡ true
same_pair x y p q a b = and_from (eqb p x) (eqb q y) (eq-eqb p x (sym a)) (eq-eqb q y (sym b))

other_pair : (x y p q : ℕ) → (x ≡ p → y ≡ q → ⊥) → (eqb p x && eqb q y) ≡ false
other_pair x y p q ne =
    ⊎_elim
    (λ t. let b = and_parts (eqb p x) (eqb q y) t in absurd (ne (sym (eqb-true p x b.0)) (sym (eqb-true q y b.1))))
    (λ f. f)
    (cases_Bool (eqb p x && eqb q y))

tallied_if : (t : Bool) (c : LetterCount) (letters : List (ℕ × ℕ)) (p q : ℕ) → p < 8 → q < 8 → Tallied c letters
    → Tallied (cond t c (record { pairs = one_more c.pairs p q; letters = c.letters + 1 })) (letters ++ cond t [] ((p, q) ∷ []))
tallied_if true c letters p q hp hq a = rw append-nil a
tallied_if false c letters p q hp hq a =
    let counts = c.pairs.counts in
    let v : ℕ = count_at counts p q + 1 in (
      put_square counts p q v hp a.0,
      omega (arith, a.1, length-append letters ((p, q) ∷ [])),
      λ x y hx hy.
          let push = between_push x y p q letters in
          ⊎_elim
          (λ same.
          let one : ◌≡◌ {A = ℕ} (cond (eqb p x && eqb q y) 1 0) 1 = ap (λ t. cond t 1 0) (same_pair x y p q same.0 same.1) in
          let here : count_at (put counts p q v) x y ≡ v = ap₂ (count_at (put counts p q v)) same.0 same.1 ∙ put_here counts p q v hp a.0 hq in
          let was : count_at counts p q ≡ count_at counts x y = ap₂ (count_at counts) (sym same.0) (sym same.1) in
          omega (arith, push, one, here, was, a.2 x y hx hy))
          (λ ne.
          let none : ◌≡◌ {A = ℕ} (cond (eqb p x && eqb q y) 1 0) 0 = ap (λ t. cond t 1 0) (other_pair x y p q ne) in
          omega (arith, push, none, put_elsewhere counts p q v hp a.0 x y ne, a.2 x y hx hy))
          (cases_pair x y p q),
    )

tallied_noted : (c : LetterCount) (letters : List (ℕ × ℕ)) (p q : ℕ) → p < 8 → q < 8 → Tallied c letters → Tallied (noted c p q) (letters ++ letter_of p q)
unfolding letter_of
tallied_noted c letters p q = tallied_if (eqb p q) c letters p q

-- after some iterations, the letters of a read in these
tallied_iterations : (q : ℕ) (deals : Deals) (s : Said) (r : ReadTerm) (source target : Owners) → Tells q deals s r.source source → Tells q deals s s.put target
    → (es : List Iteration) → ((e : Iteration) → In e es → Within s e) → (c : LetterCount) (letters : List (ℕ × ℕ)) → Tallied c letters
    → Tallied (fold (noting source target) c es) (letters ++ flat_map (letter_in (seat q deals 0) s r) es)
unfolding letter_of
tallied_iterations q deals s r source target by-source by-target [] within c letters a = rw append-nil a
tallied_iterations q deals s r source target by-source by-target (e ∷ es) within c letters a =
    let w = within e (inl refl) in
    let from = by-source e w in
    let to = by-target e w in
    let one = tallied_noted c letters (board_by source e) (board_by target e) from.0.2 to.0.2 a in
    let letter : letter_of (board_by source e) (board_by target e) ≡ letter_in (seat q deals 0) s r e = ap₂ letter_of from.1 to.1 in
    let so = tallied_iterations q deals s r source target by-source by-target es (λ x m. within x (inr m)) (noting source target c e) (letters ++ letter_of (board_by source e) (board_by target e)) one in
    subst (λ t. Tallied (fold (noting source target) c (e ∷ es)) (letters ++ (t ++ flat_map (letter_in (seat q deals 0) s r) es))) letter
    (subst (Tallied (fold (noting source target) c (e ∷ es))) (append_assoc letters (letter_of (board_by source e) (board_by target e)) (flat_map (letter_in (seat q deals 0) s r) es)) so)

-- one read more
pub tallied_read : (q : ℕ) (deals : Deals) (s : Said) (source target : Owners) (items : List ReadTerm) (n : ℕ) (d : ReadTerm) (before after : LetterCount)
    → n < length items → Tells q deals s (get_or items n d).source source → Tells q deals s s.put target
    → Tallied before (flat_map (letters_for (seat q deals 0) s) (take n items)) → after ≡ fold (noting source target) before (iterations s.i s.j)
    → Tallied after (flat_map (letters_for (seat q deals 0) s) (take (n + 1) items))
tallied_read q deals s source target items n d before after h by-source by-target so step =
    let read : ReadTerm = get_or items n d in
    let letters = letters_for (seat q deals 0) s in
    let all = tallied_iterations q deals s read source target by-source by-target (iterations s.i s.j) (in_iterations s) before (flat_map letters (take n items)) so in
    let list : flat_map letters (take n items) ++ letters read ≡ flat_map letters (take (n + 1) items) = flat_map_more letters [] (take n items) read ∙ ap (flat_map letters) (sym (take_more items n d h)) in
    subst (Tallied after) list (subst (λ c. Tallied c (flat_map letters (take n items) ++ letters read)) (sym step) all)

-- all reads
pub tallied_all : (q : ℕ) (deals : Deals) (s : Said) (items : List ReadTerm) (n : ℕ) (c : LetterCount) → items ≡ s.reads → length items ≤ n
    → Tallied c (flat_map (letters_for (seat q deals 0) s) (take n items)) → Tallied c (letters_in (seat q deals 0) s)
tallied_all q deals s items n c same end a = subst (λ l. Tallied c (flat_map (letters_for (seat q deals 0) s) l)) (take_all n items end ∙ same) a

-- the table of all pairs
pub tallied_pairs : (c : LetterCount) (letters : List (ℕ × ℕ)) → Tallied c letters → c.pairs.counts ≡ map (λ p. map (λ q. between p q letters) (range_with_len 0 8)) (range_with_len 0 8)
tallied_pairs c letters a =
    fill_by_all (λ p. map (λ q. between p q letters) (range_with_len 0 8)) c.pairs.counts 8 [] a.0.0
    (λ p hp. fill_by_all (λ q. between p q letters) (sent_by c.pairs.counts p) 8 0 (a.0.1 p hp) (λ q hq. a.2 p q hp hq))

-- nothing is counted of no letters
pub tallied_none : (c : LetterCount) → Noughts c.pairs.counts → c.letters ≡ 0 → Tallied c []
tallied_none c none zero = (noughts_square c.pairs.counts none, zero, noughts_at c.pairs.counts none)

pub at_most_none : (c : LetterCount) → Noughts c.pairs.counts → c.letters ≡ 0 → AtMost 0 c
at_most_none c none zero = (noughts_square c.pairs.counts none, omega arith, λ p q hp hq. omega (arith, noughts_at c.pairs.counts none p q hp hq))
