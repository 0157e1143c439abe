-- Lists of calls, one call more, and where each letter goes. Assumes nothing.
use Rattle.std.proofs.Common.{◌≡◌, ℕ, ◌+◌, ◌<◌, List, [], ◌∷◌, ◌++◌, map, length, Result, get_or, take, drop, set, sym, refl, ap, ◌∙◌, ap₂, subst₂, arith}
use Rattle.std.proofs.lemmas.List.{take_more, take_more_set, drop-set-lt, drop-drop, take-take, map_push, append-nil, append_assoc}
use Rattle.std.proofs.lemmas.Bool.Decides.{nat_tests}
use Rattle.std.proofs.lemmas.Grind.{common_steps}
use Rattle.post.specs.declared.calls.Call.{Call}
use Rattle.post.specs.declared.calls.Call.TheVariants.{Put, Take}
use Rattle.post.specs.declared.calls.Reply.{Reply}
use Rattle.post.specs.declared.answers.PostRefusal.{PostRefusal}
use Rattle.post.specs.declared.pair.Pair.{Pair}
use Rattle.post.specs.Calls.{said, answer_of, after_call, answers_of, after_calls, added, removed, all_added, all_removed, Conserved, Answered}
use Rattle.post.specs.Mail.{Mail, put_answer, after_put, take_answer, after_take}

module _ {V : Type 0} where
  answers_push : (m : Mail V) (cs : List (Call V)) (c : Call V) → answers_of m (cs ++ (c ∷ [])) ≡ answers_of m cs ++ (answer_of (after_calls m cs) c ∷ [])
  answers_push m [] c = refl
  answers_push m (b ∷ cs) c = ap (λ l. answer_of m b ∷ l) (answers_push (after_call m b) cs c)

  after_push : (m : Mail V) (cs : List (Call V)) (c : Call V) → after_calls m (cs ++ (c ∷ [])) ≡ after_call (after_calls m cs) c
  after_push m [] c = refl
  after_push m (b ∷ cs) c = after_push (after_call m b) cs c

  -- one call adds to its row's end and removes from its front
  conserved_put : (m : Mail V) (at : Pair) (v : V) (p q : ℕ) → (after_put m at.from at.to v).row p q ≡ m.row p q ++ added p q (Put at v) (put_answer m at.from at.to)
  conserved_put m at v p q = grind (arith, common_steps, nat_tests, append-nil)

  conserved_take : (m : Mail V) (at : Pair) (p q : ℕ) → removed p q (Take at) (take_answer m at.from at.to) ++ (after_take m at.from at.to).row p q ≡ m.row p q
  conserved_take m at p q = go (m.row at.from at.to) refl
    where
      go : (xs : List V) → m.row at.from at.to ≡ xs → removed p q (Take at) (take_answer m at.from at.to) ++ (after_take m at.from at.to).row p q ≡ m.row p q
      go [] e = grind (arith, common_steps, nat_tests)
      go (w ∷ ws) e = grind (arith, common_steps, nat_tests)

  conserved_call : (m : Mail V) (c : Call V) (p q : ℕ) → removed p q c (answer_of m c) ++ (after_call m c).row p q ≡ m.row p q ++ added p q c (answer_of m c)
  conserved_call m (Put at v) p q = conserved_put m at v p q
  conserved_call m (Take at) p q = conserved_take m at p q ∙ sym (append-nil (m.row p q))

  pub conserved : (m : Mail V) (cs : List (Call V)) → Conserved m cs (answers_of m cs) (after_calls m cs)
  conserved m [] p q = sym (append-nil (m.row p q))
  conserved m (c ∷ cs) p q =
      let gone = removed p q c (answer_of m c) in
      let come = added p q c (answer_of m c) in
      let later = all_added p q cs (answers_of (after_call m c) cs) in
      append_assoc gone (all_removed p q cs (answers_of (after_call m c) cs)) ((after_calls (after_call m c) cs).row p q)
      ∙ ap (λ l. gone ++ l) (conserved (after_call m c) cs p q)
      ∙ sym (append_assoc gone ((after_call m c).row p q) later)
      ∙ ap (λ l. l ++ later) (conserved_call m c p q)
      ∙ append_assoc (m.row p q) come later

  -- a record of what k calls leave, from all but the last of its fields
  made : (m : Mail V) (calls : List (Call V)) (before replies : List (Result (Reply V) PostRefusal)) (n : Mail V) (k : ℕ) → map said (take k replies) ≡ answers_of m (take k calls) → n ≡ after_calls m (take k calls) → drop k replies ≡ drop k before → Answered m calls before replies n k
  made m calls before replies n k a b r = record {
    answers = a;
    after = b;
    rest = r;
    conserved = subst₂ (Conserved m (take k calls)) (sym a) (sym b) (conserved m (take k calls));
  }

  pub answered_more :
      {m now next : Mail V} {calls : List (Call V)} {before replies : List (Result (Reply V) PostRefusal)} {k : ℕ} (c : Call V) (r : Result (Reply V) PostRefusal) →
      Answered m calls before replies now k → k < length calls → k < length replies → c ≡ get_or calls k c → said r ≡ answer_of now c → next ≡ after_call now c →
      Answered m calls before (set replies k r) next (k + 1)
  answered_more {m} {now} {next} {calls} {before} {replies} {k} c r s h l read answered changed =
      let more : take (k + 1) calls ≡ take k calls ++ (c ∷ []) = take_more calls k c h ∙ ap (λ x. take k calls ++ (x ∷ [])) (sym read) in
      made m calls before (set replies k r) next (k + 1)
      (ap (map said) (take_more_set replies k r l)
      ∙ map_push said (take k replies) r
      ∙ ap₂ (λ x y. x ++ (y ∷ [])) s.answers (answered ∙ ap (λ n. answer_of n c) s.after)
      ∙ sym (ap (answers_of m) more ∙ answers_push m (take k calls) c))
      (changed ∙ ap (λ n. after_call n c) s.after ∙ sym (ap (after_calls m) more ∙ after_push m (take k calls) c))
      (drop-set-lt (k + 1) replies k r (omega arith)
      ∙ sym (drop-drop 1 k replies)
      ∙ ap (drop 1) s.rest
      ∙ drop-drop 1 k before)

  -- the calls of a front part are the first calls
  pub answered_front : {m n : Mail V} {calls front : List (Call V)} {before replies : List (Result (Reply V) PostRefusal)} {j k : ℕ} → Answered m front before replies n j → front ≡ take k calls → j ≡ k → Answered m calls before replies n k
  answered_front {m} {n} {calls} {front} {before} {replies} {j} {k} s f e =
      let part : take j front ≡ take k calls = ap₂ take e f ∙ take-take k k calls (omega arith) in
      made m calls before replies n k
      (ap (λ i. map said (take i replies)) (sym e) ∙ s.answers ∙ ap (answers_of m) part)
      (s.after ∙ ap (after_calls m) part)
      (ap (λ i. drop i replies) (sym e) ∙ s.rest ∙ ap (λ i. drop i before) e)

  -- two posts that mean the same
  pub alike :
      {m n a b : Mail V} {calls : List (Call V)} {xs ys before others : List (Result (Reply V) PostRefusal)} {k : ℕ} → Answered m calls before xs a k → Answered n calls others ys b k → m ≡ n →
      (map said (take k xs) ≡ map said (take k ys)) × (a ≡ b)
  alike {calls = calls} {k = k} s t same =
      (s.answers ∙ ap (λ m. answers_of m (take k calls)) same ∙ sym t.answers, s.after ∙ ap (λ m. after_calls m (take k calls)) same ∙ sym t.after)
