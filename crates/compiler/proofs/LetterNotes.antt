-- Letters noted one by one are those of the statement.
use Rattle.std.proofs.Common.{◌≡◌, ℕ, ◌+◌, ◌-◌, ◌<◌, ◌≤◌, Bool, true, false, cond, eqb, ◌∙◌, ap₂, ⊎_elim, arith}
use Rattle.sequential.specs.declared.iteration.Iteration.{Iteration}
use Rattle.compiler.specs.declared.letters.LetterCount.{LetterCount}
use Rattle.compiler.specs.declared.owners.Owners.{Owners}
use Rattle.compiler.specs.LetterCounts.{count_at, one_more, noted, noting, AtMost}
use Rattle.compiler.specs.OwnerTables.{board_by}
use Rattle.compiler.proofs.LetterTables.{cases_pair, put_square, put_here, put_elsewhere}

pub at_most_wider : (m n : ℕ) (c : LetterCount) → m ≤ n → AtMost m c → AtMost n c
at_most_wider m n c le a = (a.0, omega arith, λ p q hp hq. omega (arith, a.2 p q hp hq))

-- a note adds one at most
at_most_if : (t : Bool) (m : ℕ) (c : LetterCount) (p q : ℕ) → p < 8 → q < 8 → AtMost m c → AtMost (m + 1) (cond t c (record { pairs = one_more c.pairs p q; letters = c.letters + 1 }))
at_most_if true m c p q hp hq a = at_most_wider m (m + 1) c (omega arith) a
at_most_if false m c p q hp hq a =
    let counts = c.pairs.counts in
    let v : ℕ = count_at counts p q + 1 in (
      put_square counts p q v hp a.0,
      omega arith,
      λ x y hx hy. ⊎_elim
          (λ same. rw (same.0, same.1) (omega (arith, put_here counts p q v hp a.0 hq, a.2 p q hp hq)))
          (λ ne. omega (arith, put_elsewhere counts p q v hp a.0 x y ne, a.2 x y hx hy))
          (cases_pair x y p q),
    )

pub at_most_noted : (m : ℕ) (c : LetterCount) (p q : ℕ) → p < 8 → q < 8 → AtMost m c → AtMost (m + 1) (noted c p q)
at_most_noted m c p q = at_most_if (eqb p q) m c p q

-- one turn of the inner loop
pub noting_more : (o t : Owners) (e : Iteration) (p q : ℕ) (before after : LetterCount) → p ≡ board_by o e → q ≡ board_by t e → after ≡ noted before p q → after ≡ noting o t before e
noting_more o t e p q before after is-p is-q step = step ∙ ap₂ (noted before) is-p is-q

pub at_most_more : (m low j p q : ℕ) (before after : LetterCount) → low ≤ j → p < 8 → q < 8 → after ≡ noted before p q → AtMost (m + (j - low)) before → AtMost (m + (j + 1 - low)) after
at_most_more m low j p q before after h hp hq step a =
    let n : m + (j + 1 - low) ≡ m + (j - low) + 1 = omega arith in
    rw (step, n) (at_most_noted (m + (j - low)) before p q hp hq a)
