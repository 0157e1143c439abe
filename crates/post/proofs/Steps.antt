-- The answers and the meaning that a put and a take leave, case by case. Assumes nothing.
use Rattle.std.proofs.Common.{◌≡◌, ℕ, ◌<◌, ◌≤◌, true, false, ◌≢◌, ◌⊎◌, [], ◌∷◌, ◌++◌, length, drop, Ok, ◌∙◌, sym, ap, arith}
use Rattle.std.proofs.lemmas.Bool.Decides.{nat_tests}
use Rattle.std.proofs.lemmas.Grind.{common_steps}
use Rattle.post.specs.Answers.{service}
use Rattle.post.specs.Mail.{Mail, Served, joined, full, waits, refused, no_such_board, serves, oldest, with_row, put_answer, after_put, take_answer, after_take, count_answer}
use Rattle.post.proofs.Mails.{same_row}

-- a pair that is not refused
pub admitted : (n p q : ℕ) (u : Unit {0}) → Ok u ≡ service n p q → Served n p q
admitted n p q u e = grind (arith, common_steps, nat_tests)

module _ {V : Type 0} (m : Mail V) (p q : ℕ) where
  -- a pair outside the board count
  pub unserved : (m.boards ≤ p) ⊎ (m.boards ≤ q) → serves m p q ≡ false
  unserved h = grind (arith, common_steps, nat_tests)

  module _ (out : serves m p q ≡ false) where
    pub put_refused : refused no_such_board ≡ put_answer m p q
    put_refused = grind (arith, common_steps, nat_tests)

    pub put_refused_keeps : (v : V) → m ≡ after_put m p q v
    put_refused_keeps v = grind (arith, common_steps, nat_tests)

    pub take_refused : refused no_such_board ≡ take_answer m p q
    take_refused = grind (arith, common_steps, nat_tests)

    pub take_refused_keeps : m ≡ after_take m p q
    take_refused_keeps = grind (arith, common_steps, nat_tests)

    pub count_refused : refused no_such_board ≡ count_answer m p q
    count_refused = grind (arith, common_steps, nat_tests)

  module _ (p-below : p < m.boards) (q-below : q < m.boards) where
    pub served : serves m p q ≡ true
    served = grind (arith, common_steps, nat_tests)

    pub put_full : length (m.row p q) ≡ m.depth → full ≡ put_answer m p q
    put_full e = grind (arith, common_steps, nat_tests)

    pub put_full_keeps : (v : V) → length (m.row p q) ≡ m.depth → m ≡ after_put m p q v
    put_full_keeps v e = grind (arith, common_steps, nat_tests)

    pub put_joined : length (m.row p q) ≢ m.depth → joined ≡ put_answer m p q
    put_joined e = grind (arith, common_steps, nat_tests)

    pub put_joins : (v : V) → length (m.row p q) ≢ m.depth → with_row m p q (m.row p q ++ (v ∷ [])) ≡ after_put m p q v
    put_joins v e = grind (arith, common_steps, nat_tests)

    pub take_oldest : oldest (m.row p q) ≡ take_answer m p q
    take_oldest = grind (arith, common_steps, nat_tests)

    pub take_drops : with_row m p q (drop 1 (m.row p q)) ≡ after_take m p q
    take_drops = grind (arith, common_steps, nat_tests)

    pub take_none : m.row p q ≡ [] → m ≡ after_take m p q
    take_none e = same_row m p q (drop 1 (m.row p q)) (e ∙ sym (ap (drop 1) e)) ∙ take_drops

    pub count_is : waits (length (m.row p q)) ≡ count_answer m p q
    count_is = grind (arith, common_steps, nat_tests)
