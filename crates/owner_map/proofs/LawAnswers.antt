-- What a map answers to questions that rest on its own answers.
use Rattle.std.proofs.Common.{◌≡◌, ℕ, ◌==◌, arith, ltb, Some, None, Option, MatchOption, Ok, Err, Result, sym, ap, ◌∙◌}
use Rattle.std.proofs.lemmas.Bool.Decides.{nat_tests}
use Rattle.std.proofs.lemmas.Bool.{lt-ltb, le-ltb, cond-true, cond-false}
use Rattle.std.specs.Option.{option_transpose}
use Rattle.owner_map.specs.declared.refusal.Refusal.{Refusal}
use Rattle.owner_map.specs.Answer.{Given, Placed}
use Rattle.owner_map.specs.Laws.{place_again}
use Rattle.owner_map.specs.Meaning.{Deal, Position, Board, owner, rank, place, position, share}
use Rattle.owner_map.specs.Deals.{position_undone, rank_reached, rank_missed}

-- The same question, asked in other words.
pub given_like : {A : Type 0} (P Q : Type 0) (Is Is' : A → Type 0) (r : Result A Refusal) → Given P Is r → (P → Q) → (Q → P) → ((a : A) → Is a → Is' a) → Given Q Is' r
given_like P Q Is Is' (Ok a) given to from turn = (to given.0, turn a given.1)
given_like P Q Is Is' (Err e) given to from turn = (λ q. given.0 (from q), given.1)

-- Two tests of equality agree where each equation follows from the other.
pub same_tests : (a b x y : ℕ) → (a ≡ b → x ≡ y) → (x ≡ y → a ≡ b) → (a == b) ≡ (x == y)
same_tests a b x y to from = grind (arith, nat_tests)

module _ (d : Deal) where
  -- The two parts of a place.
  pub owner_of : (x : ℕ) (q : ℕ × ℕ) → q ≡ place d x → q.0 ≡ owner d x
  owner_of x q at = ap (λ p. p.0) at

  pub rank_of : (x : ℕ) (q : ℕ × ℕ) → q ≡ place d x → q.1 ≡ rank d x
  rank_of x q at = ap (λ p. p.1) at

  pub same_place : (x y : ℕ) → x ≡ y → (owner d x ≡ owner d y) × (rank d x ≡ rank d y)
  same_place x y e = (ap (owner d) e, ap (rank d) e)

-- The place of the position of board b at rank r.
pub placed_again : (d : Deal) (b r : ℕ) (o : Option ℕ) (m : Option (Result (ℕ × ℕ) Refusal)) → Board d b × (o ≡ position d b r) → MatchOption o (m ≡ None) (λ x. (p : Result (ℕ × ℕ) Refusal) × Placed d x p × (m ≡ Some p)) → Given (Board d b) (λ p. p ≡ place_again d b r) (option_transpose m)
placed_again d b r None m on e =
    rw e (on.0, sym (cond-false (ltb r (share d b)) _ _ (le-ltb r (share d b) (rank_missed d b r (sym on.1)))))
placed_again d b r (Some x) m on found = rw found.2 (answer found.0 found.1)
  where
    undone : Position d x × (place d x ≡ (b, r))
    undone = position_undone d b r x (sym on.1)

    answer : (p : Result (ℕ × ℕ) Refusal) → Placed d x p → Given (Board d b) (λ p. p ≡ place_again d b r) (option_transpose (Some p))
    answer (Ok q) at =
        let e : q ≡ (b, r) = at.1 ∙ undone.1 in
        (on.0, ap {B = Option (ℕ × ℕ)} Some e ∙ sym (cond-true (ltb r (share d b)) _ _ (lt-ltb r (share d b) (rank_reached d b r x (sym on.1)))))
    answer (Err e) refused = absurd (refused.0 undone.0)
