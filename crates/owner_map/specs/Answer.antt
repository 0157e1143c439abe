-- How a map answers: inside the question's numbers the value of the meaning, outside them the refusal.
use Rattle.std.specs.Prelude.{◌≡◌, ℕ, Ok, Err, Option, Result}
use Rattle.owner_map.specs.declared.refusal.Refusal.{Refusal}
use Rattle.owner_map.specs.declared.refusal.Refusal.TheVariants.{OutsideNumbers}
use Rattle.owner_map.specs.Meaning.{Deal, Position, Board, Bound, place, position, below}

-- The number that each refusal is known by. None carries a value.
abbrev pub number : Refusal → ℕ
number OutsideNumbers = 13

-- A value is given exactly where `Asked` holds, and it satisfies `Is`; elsewhere refusal 13 is given.
abbrev pub Given : {A : Type 0} → Type 0 → (A → Type 0) → Result A Refusal → Type 0
Given Asked Is (Ok a) = Asked × Is a
Given Asked Is (Err e) = (Asked → ⊥) × (number e ≡ 13)

-- The answer to: where is position x?
abbrev pub Placed : Deal → ℕ → Result (ℕ × ℕ) Refusal → Type 0
Placed d x r = Given (Position d x) (λ p. p ≡ place d x) r

-- The answer to: which position has board b at rank n?
abbrev pub Found : Deal → ℕ → ℕ → Result (Option ℕ) Refusal → Type 0
Found d b n r = Given (Board d b) (λ p. p ≡ position d b n) r

-- The answer to: how many positions below the bound has board b?
abbrev pub Counted : Deal → ℕ → ℕ → Result ℕ Refusal → Type 0
Counted d b bound r = Given (Board d b × Bound d bound) (λ c. c ≡ below d b bound) r
