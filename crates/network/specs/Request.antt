-- A request to one board at a depth: first what the board can do now, then the one effect that every step has.
use Rattle.std.specs.Prelude.{ℕ, cond, ◌&&◌, List, [], ◌∷◌, ◌++◌, length, ◌==◌, nat_lt}
use Rattle.network.specs.Network.{Step, ends, goes_on, puts, takes, Network, State}
use Rattle.network.specs.declared.answer.Answer.{Answer}
use Rattle.network.specs.declared.answer.Answer.TheVariants.{Ran, Waiting, Ended, Refused}

-- A step that can be run now: the state that the board goes on in, the one row it touches, and what becomes of that row.
pub record Move (L S : Type 0) : Type 0 where
  pub after : S
  pub sender : ℕ
  pub receiver : ℕ
  pub change : List L → List L

-- What a board can do now.
pub data Decision (L S : Type 0) : Type 0 where
  -- it is not in the network
  absent : Decision L S
  -- it has ended
  finished : Decision L S
  -- it waits for that board, to take from its row or to put into its own
  waits_for : ℕ → Decision L S
  -- it runs
  moves : Move L S → Decision L S

-- A letter joins the end of a row; the oldest letter leaves it.
unfoldable pub joined : {L : Type 0} → L → List L → List L
joined x row = row ++ x ∷ []

unfoldable pub without_oldest : {L : Type 0} → List L → List L
without_oldest [] = []
without_oldest (_ ∷ row) = row

-- A board that takes: none waits, or it goes on by the oldest letter.
unfoldable pub taking : {L S : Type 0} → ℕ → ℕ → (L → S) → List L → Decision L S
taking p q go [] = waits_for q
taking p q go (x ∷ _) = moves (record { after = go x; sender = q; receiver = p; change = without_oldest })

-- What board p can do at a depth, by its next step and the rows. It waits exactly where it must put and the row holds as
-- many letters as the depth, or must take and none waits. A step alone leaves its own row as it is.
unfoldable pub able : {L S : Type 0} → ℕ → (ℕ → ℕ → List L) → ℕ → Step L S → Decision L S
able depth row p ends = finished
able depth row p (goes_on t) = moves (record { after = t; sender = p; receiver = p; change = λ r. r })
able depth row p (puts q x t) =
    cond (nat_lt (length (row p q)) depth) (moves (record { after = t; sender = p; receiver = q; change = joined x })) (waits_for q)
able depth row p (takes q go) = taking p q go (row q p)

unfoldable pub decide : {L S : Type 0} → Network L S → ℕ → State L S → ℕ → Decision L S
decide net depth s p =
    cond (nat_lt p net.boards) (able depth s.row p (net.next p (s.own p))) absent

-- A function of board numbers with the value at one board replaced, and one of pairs with one pair's value changed.
unfoldable pub replaced : {X : Type 0} → ℕ → X → (ℕ → X) → ℕ → X
replaced p x f q = cond (q == p) x (f q)

unfoldable pub changed : {X : Type 0} → ℕ → ℕ → (X → X) → (ℕ → ℕ → X) → ℕ → ℕ → X
changed p q g f i j = cond (i == p && j == q) (g (f i j)) (f i j)

-- The one effect of a move of board p.
unfoldable pub moved : {L S : Type 0} → ℕ → Move L S → State L S → State L S
moved p m s =
    record { own = replaced p m.after s.own; row = changed m.sender m.receiver m.change s.row }

-- What the board answers, and the state that is left: as it was, unless the board ran.
unfoldable pub answer : {L S : Type 0} → Decision L S → Answer
answer absent = Refused
answer finished = Ended
answer (waits_for q) = Waiting
answer (moves m) = Ran

unfoldable pub leaves : {L S : Type 0} → ℕ → Decision L S → State L S → State L S
leaves p (moves m) s = moved p m s
leaves p _ s = s

-- A request to board p at a depth: its answer, and the state that it leaves.
unfoldable pub request : {L S : Type 0} → Network L S → ℕ → State L S → ℕ → Answer × State L S
request net depth s p = (answer (decide net depth s p), leaves p (decide net depth s p) s)
