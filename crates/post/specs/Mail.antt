-- What a post means, and what its calls answer and leave. Assumes nothing.
use Rattle.std.specs.Prelude.{◌≡◌, ℕ, ◌<◌, ◌≤◌, Bool, false, cond, ◌&&◌, List, [], ◌∷◌, ◌++◌, length, drop, ◌==◌, nat_lt}

-- A post over letters of V: how many boards it serves, how many letters of one pair can wait, and for each sender and
-- receiver the row of waiting letters, oldest first.
pub record Mail (V : Type 0) : Type 0 where
  pub boards : ℕ
  pub depth : ℕ
  pub row : ℕ → ℕ → List V

-- What a call of a post can answer; a refusal has a number.
pub data Answer (V : Type 0) : Type 0 where
  joined : Answer V
  full : Answer V
  letter : V → Answer V
  none : Answer V
  waits : ℕ → Answer V
  refused : ℕ → Answer V

-- Both boards of the pair are below the board count: as a fact of the count n, and as a test on a post.
abbrev pub Served : ℕ → ℕ → ℕ → Type 0
Served n p q = (p < n) × (q < n)

abbrev pub serves : {V : Type 0} → Mail V → ℕ → ℕ → Bool
serves m p q = nat_lt p m.boards && nat_lt q m.boards

-- No row is longer than the depth, and a pair that is not served has no letters.
pub record Orderly {V : Type 0} (m : Mail V) : Type 0 where
  pub short : (p q : ℕ) → length (m.row p q) ≤ m.depth
  pub inside : (p q : ℕ) → serves m p q ≡ false → m.row p q ≡ []

-- The post m with another row for the pair p, q.
abbrev pub with_row : {V : Type 0} → Mail V → ℕ → ℕ → List V → Mail V
with_row m p q vs = record { boards = m.boards; depth = m.depth; row = λ s r. cond (s == p && r == q) vs (m.row s r) }

-- As many letters as the depth wait for the pair.
abbrev pub at_depth : {V : Type 0} → Mail V → ℕ → ℕ → Bool
at_depth m p q = length (m.row p q) == m.depth

-- The number by which a call for a board at or above the count is refused.
abbrev pub no_such_board : ℕ
no_such_board = 14

-- A put from p to q: full where the pair's row is at the depth; else the letter joins the end of that row.
abbrev pub put_answer : {V : Type 0} → Mail V → ℕ → ℕ → Answer V
put_answer m p q = cond (serves m p q) (cond (at_depth m p q) full joined) (refused no_such_board)

abbrev pub after_put : {V : Type 0} → Mail V → ℕ → ℕ → V → Mail V
after_put m p q v = cond (serves m p q) (cond (at_depth m p q) m (with_row m p q (m.row p q ++ (v ∷ [])))) m

-- The oldest letter of a row, or that there is none.
abbrev pub oldest : {V : Type 0} → List V → Answer V
oldest [] = none
oldest (v ∷ vs) = letter v

-- A take from p by q: the oldest letter of the pair leaves its row.
abbrev pub take_answer : {V : Type 0} → Mail V → ℕ → ℕ → Answer V
take_answer m p q = cond (serves m p q) (oldest (m.row p q)) (refused no_such_board)

abbrev pub after_take : {V : Type 0} → Mail V → ℕ → ℕ → Mail V
after_take m p q = cond (serves m p q) (with_row m p q (drop 1 (m.row p q))) m

-- How many letters wait for the pair.
abbrev pub count_answer : {V : Type 0} → Mail V → ℕ → ℕ → Answer V
count_answer m p q = cond (serves m p q) (waits (length (m.row p q))) (refused no_such_board)

-- A post of n boards and depth d in which no letter waits.
abbrev pub empty_post : {V : Type 0} → ℕ → ℕ → Mail V
empty_post n d = record { boards = n; depth = d; row = λ s r. [] }
