-- What FORALL and DO mean, for every statement that keeps its ranges. Assumes nothing.
use Rattle.std.proofs.Common.{◌≡◌, ℕ, Bool, true, leb, List, [], ◌∷◌, length, get_or, fold, ap, ◌∙◌, inl, inr, arith}
use Rattle.std.proofs.lemmas.Bool.{and_parts}
use Rattle.nest.specs.Terms.{Said}
use Rattle.nest.specs.Sound.{each, access_kept, read_kept, statement_kept}
use Rattle.nest.specs.declared.terms.Array.{Array}
use Rattle.nest.specs.declared.terms.Mode.TheVariants.{All, Seq}
use Rattle.layout.specs.Places.{total}
use Rattle.layout.proofs.PlaceLaws.{place_alone}
use Rattle.sequential.specs.declared.iteration.Iteration.{Iteration}
use Rattle.sequential.specs.Iterations.{iterations, position_in}
use Rattle.sequential.specs.Run.{Setting, setting_of, Buffers, target_in, value_in, doing, after_statement, Hold}
use Rattle.sequential.specs.Laws.{In, with_mode, StoredTogether, ReadsOthers, ModesMean}
use Rattle.sequential.proofs.Kept.{Parts, parts_of, reached, target_reached}
use Rattle.sequential.proofs.Targets.{in_iterations, targets_apart, target_below}
use Rattle.sequential.proofs.Passing.{written_other, written_target, held_elements, held_written, held_length, held_for, stored_held, stored_written, stored_length}
use Rattle.sequential.proofs.Fusion.{Unread, at_once}

pub each_in : {X : Type 0} (f : X → Bool) (xs : List X) (x : X) → each f xs ≡ true → In x xs → f x ≡ true
each_in f [] x k m = absurd m
each_in f (y ∷ xs) x k (inl p) = ap f p ∙ (and_parts (f y) (each f xs) k).0
each_in f (y ∷ xs) x k (inr m) = each_in f xs x (and_parts (f y) (each f xs) k).1 m

module _ {V : Type 0} (k : Setting V) (s : Said) (kept : Parts k.arrays s) where
  stored_together : (b : Buffers V) → length b.elements ≡ total k.arrays → length b.held ≡ total k.arrays → StoredTogether k s b (after_statement k b (with_mode All s))
  stored_together b p q =
      let es = iterations s.i s.j in
      let t = target_in k.arrays s in
      let h = fold (doing Hold k s) b es in
      let apart = targets_apart k.arrays s kept in
      let at : (n : ℕ) → List V → V = λ n xs. get_or xs n k.outside in
      let same = held_elements k s es b in
      let long : length h.elements ≡ total k.arrays = ap length same ∙ p in
      let holds : (e : Iteration) → In e es → at (t e) h.held ≡ value_in k s b.elements e = λ e m.
      ap (at (t e)) (held_written k s es b) ∙ written_target t (value_in k s b.elements) es b.held k.outside apart (λ x l. omega (arith, target_below k.arrays s kept x l)) e m in
      record {
        element = λ e m.
            ap (at (t e)) (stored_written k s es h) ∙ written_target t (held_for k s h) es h.elements k.outside apart (λ x l. omega (arith, target_below k.arrays s kept x l)) e m ∙ holds e m;
        held = λ e m. ap (at (t e)) (stored_held k s es h) ∙ holds e m;
        other_elements = λ n none. ap (at n) (stored_written k s es h) ∙ written_other t (held_for k s h) es h.elements n k.outside none ∙ ap (at n) same;
        other_held = λ n none. ap (at n) (stored_held k s es h) ∙ (ap (at n) (held_written k s es b) ∙ written_other t (value_in k s b.elements) es b.held n k.outside none);
        elements_length = stored_length k s es h ∙ ap length same;
        held_length = ap length (stored_held k s es h) ∙ held_length k s es b;
      }

  unread : ReadsOthers s → (e f : Iteration) → In e (iterations s.i s.j) → In f (iterations s.i s.j) → Unread k s e f
  unread others e f l m r n same =
      let a = r.source in
      let at = s.put in
      let ok = (and_parts (leb r.coefficient 7) (access_kept 0 k.arrays s.i s.j a) (each_in (read_kept k.arrays s.i s.j) s.reads r kept.reads n)).1 in
      others r n (place_alone k.arrays a.array (position_in a.row e) (position_in a.column e) at.array (position_in at.row f) (position_in at.column f)
      (reached k.arrays s kept e (in_iterations s e l) 0 a ok).element (target_reached k.arrays s kept f (in_iterations s f m)).element same).0

  do_is_forall : (b : Buffers V) → ReadsOthers s → after_statement k b (with_mode Seq s) ≡ after_statement k b (with_mode All s)
  do_is_forall b others = at_once k s (iterations s.i s.j) b (targets_apart k.arrays s kept) (unread others)

pub modes_mean : (V : Type 0) (arrays : List Array) (s : Said) → statement_kept arrays s ≡ true → ModesMean V arrays s
modes_mean V arrays s kept plus times coefficients d b p q =
    let k = setting_of plus times coefficients arrays d in
    (stored_together k s (parts_of arrays s kept) b p q, do_is_forall k s (parts_of arrays s kept) b)
