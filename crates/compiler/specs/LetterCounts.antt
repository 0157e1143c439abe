-- Letters counted one by one. Assumes nothing.
use Rattle.std.specs.Prelude.{◌≡◌, ℕ, ◌+◌, ◌<◌, ◌≤◌, cond, List, [], length, ◌==◌, slice_index, slice_index_or, slice_set}
use Rattle.nest.specs.Terms.{Said}
use Rattle.nest.specs.declared.terms.Range.{Range}
use Rattle.sequential.specs.Ready.{Within}
use Rattle.sequential.specs.declared.iteration.Iteration.{Iteration}
use Rattle.compiler.specs.declared.letters.LetterCount.{LetterCount}
use Rattle.compiler.specs.declared.owners.Owners.{Owners}
use Rattle.compiler.specs.declared.parts.PairLetters.{PairLetters}
use Rattle.compiler.specs.OwnerTables.{board_by, Answers}

-- the row of a sender, and the number of letters from board p to board q
abbrev pub sent_by : List (List ℕ) → ℕ → List ℕ
sent_by counts p = slice_index_or counts p []

abbrev pub count_at : List (List ℕ) → ℕ → ℕ → ℕ
count_at counts p q = slice_index (sent_by counts p) q

-- one letter more from board p to board q
abbrev pub one_more : PairLetters → ℕ → ℕ → PairLetters
one_more t p q = record { counts = slice_set t.counts p (slice_set (sent_by t.counts p) q (count_at t.counts p q + 1)) }

-- after the element of board p and the target of board q: a letter, if they are two boards
abbrev pub noted : LetterCount → ℕ → ℕ → LetterCount
noted n p q = cond (p == q) n (record { pairs = one_more n.pairs p q; letters = n.letters + 1 })

-- after an iteration, by the owners of the element that is read and those of the target
abbrev pub noting : Owners → Owners → LetterCount → Iteration → LetterCount
noting source target n e = noted n (board_by source e) (board_by target e)

-- all pairs have their number
abbrev pub Square : List (List ℕ) → Type 0
Square counts = (length counts ≡ 8) × ((p : ℕ) → p < 8 → length (sent_by counts p) ≡ 8)

-- they do, and none is above a limit
abbrev pub AtMost : ℕ → LetterCount → Type 0
AtMost m n = Square n.pairs.counts × (n.letters ≤ m) × ((p q : ℕ) → p < 8 → q < 8 → count_at n.pairs.counts p q ≤ m)

-- both tables tell a board in each iteration of a statement
abbrev pub BothAnswer : Said → Owners → Owners → Type 0
BothAnswer s source target = (e : Iteration) → Within s e → Answers source e × Answers target e

-- a range within 1 to 32, with a value
abbrev pub Short : Range → Type 0
Short r = (1 ≤ r.low) × (r.low ≤ r.high) × (r.high ≤ 32)

-- both ranges of a statement
abbrev pub ShortRanges : Said → Type 0
ShortRanges s = Short s.i × Short s.j
