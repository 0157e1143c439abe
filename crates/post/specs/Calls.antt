-- Lists of calls: what they answer, what they leave, and where each letter goes. Assumes nothing.
use Rattle.std.specs.Prelude.{◌≡◌, ℕ, cond, ◌&&◌, List, [], ◌∷◌, ◌++◌, map, take, drop, ◌==◌, Ok, Err, Result}
use Rattle.post.specs.declared.calls.Call.{Call}
use Rattle.post.specs.declared.calls.Call.TheVariants.{Put, Take}
use Rattle.post.specs.declared.calls.Reply.{Reply}
use Rattle.post.specs.declared.calls.Reply.TheVariants.{Put as PutReply, Taken}
use Rattle.post.specs.declared.answers.PostRefusal.{PostRefusal}
use Rattle.post.specs.Answers.{said_put, said_take, refusal}
use Rattle.post.specs.Mail.{Mail, Answer, joined, full, letter, none, waits, refused, put_answer, after_put, take_answer, after_take}

-- Each case of a reply, with its number and its values.
abbrev pub said : {V : Type 0} → Result (Reply V) PostRefusal → Answer V
said (Ok (PutReply posted)) = said_put (Ok posted)
said (Ok (Taken found)) = said_take (Ok found)
said (Err e) = refused (refusal e)

-- What one call answers on a post, and the post that it leaves.
abbrev pub answer_of : {V : Type 0} → Mail V → Call V → Answer V
answer_of m (Put pair v) = put_answer m pair.from pair.to
answer_of m (Take pair) = take_answer m pair.from pair.to

abbrev pub after_call : {V : Type 0} → Mail V → Call V → Mail V
after_call m (Put pair v) = after_put m pair.from pair.to v
after_call m (Take pair) = after_take m pair.from pair.to

-- What a list of calls answers, first to last, and the post that it leaves.
abbrev pub answers_of : {V : Type 0} → Mail V → List (Call V) → List (Answer V)
answers_of m [] = []
answers_of m (c ∷ cs) = answer_of m c ∷ answers_of (after_call m c) cs

abbrev pub after_calls : {V : Type 0} → Mail V → List (Call V) → Mail V
after_calls m [] = m
after_calls m (c ∷ cs) = after_calls (after_call m c) cs

-- The letter that a call added to the row from p to q: that of a put there which was answered joined.
abbrev pub added : {V : Type 0} → ℕ → ℕ → Call V → Answer V → List V
added p q (Put pair v) joined = cond (p == pair.from && q == pair.to) (v ∷ []) []
added p q (Put pair v) full = []
added p q (Put pair v) (letter w) = []
added p q (Put pair v) none = []
added p q (Put pair v) (waits n) = []
added p q (Put pair v) (refused n) = []
added p q (Take pair) a = []

-- The letter that a call removed from that row: the one that a take there was answered.
abbrev pub removed : {V : Type 0} → ℕ → ℕ → Call V → Answer V → List V
removed p q (Put pair v) a = []
removed p q (Take pair) joined = []
removed p q (Take pair) full = []
removed p q (Take pair) (letter w) = cond (p == pair.from && q == pair.to) (w ∷ []) []
removed p q (Take pair) none = []
removed p q (Take pair) (waits n) = []
removed p q (Take pair) (refused n) = []

-- The letters that a list of calls added and removed, going by what it was answered.
abbrev pub all_added : {V : Type 0} → ℕ → ℕ → List (Call V) → List (Answer V) → List V
all_added p q [] answers = []
all_added p q (c ∷ cs) [] = []
all_added p q (c ∷ cs) (a ∷ answers) = added p q c a ++ all_added p q cs answers

abbrev pub all_removed : {V : Type 0} → ℕ → ℕ → List (Call V) → List (Answer V) → List V
all_removed p q [] answers = []
all_removed p q (c ∷ cs) [] = []
all_removed p q (c ∷ cs) (a ∷ answers) = removed p q c a ++ all_removed p q cs answers

-- First in, first out: of every pair, what left the row and then what still waits is what waited at first and then what came.
abbrev pub Conserved : {V : Type 0} → Mail V → List (Call V) → List (Answer V) → Mail V → Type 0
Conserved m calls answers n = (p q : ℕ) → all_removed p q calls answers ++ n.row p q ≡ m.row p q ++ all_added p q calls answers

-- The first k of the calls were made on the post m, which is now n: the first k replies are the answers, the other
-- replies are as before, and no letter was lost, doubled or overtaken.
pub record Answered {V : Type 0} (m : Mail V) (calls : List (Call V)) (before replies : List (Result (Reply V) PostRefusal)) (n : Mail V) (k : ℕ) : Type 0 where
  pub answers : map said (take k replies) ≡ answers_of m (take k calls)
  pub after : n ≡ after_calls m (take k calls)
  pub rest : drop k replies ≡ drop k before
  pub conserved : Conserved m (take k calls) (map said (take k replies)) n
