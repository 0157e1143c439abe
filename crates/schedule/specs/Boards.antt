-- The boards of a compiled nest as a network: what a board keeps for itself, and what it does next. Assumes nothing.
use Rattle.std.specs.Prelude.{ℕ, ◌+◌, Bool, cond, ◌&&◌, List, [], ◌∷◌, ◌==◌, slice_index_or}
use Rattle.sections.specs.Order.{Element}
use Rattle.sequential.specs.Run.{Setting}
use Rattle.network.specs.Network.{Step, ends, goes_on, puts, takes, Network}
use Rattle.compiler.specs.Deeds.{Deed, rests, ships, holds, adds_own, adds_taken, stores}

-- two elements are one
abbrev pub same_element : Element → Element → Bool
same_element x y = x.0 == y.0 && x.1 == y.1 && x.2 == y.2

-- a value for each element, with that of one element replaced
unfoldable pub written : {V : Type 0} → Element → V → (Element → V) → Element → V
written e v values x = cond (same_element x e) v (values x)

-- a coefficient by its number
abbrev pub coefficient_of : {V : Type 0} → Setting V → ℕ → V
coefficient_of k n = slice_index_or k.coefficients n k.outside

-- a value with one term added
abbrev pub with_term : {V : Type 0} → Setting V → ℕ → V → V → V
with_term k n element value = k.plus value (k.times (coefficient_of k n) element)

-- what a board keeps: a value and a held value for each element, the steps that it still has to run, and how many steps
-- it ran, how many letters it put and how many it took. What it has for elements of other boards means nothing
pub record Own (V : Type 0) : Type 0 where
  pub elements : Element → V
  pub held : Element → V
  pub todo : List Deed
  pub ran : ℕ
  pub put : ℕ
  pub taken : ℕ

-- the same board after one step more, with other values, and so many letters more
abbrev pub stepped : {V : Type 0} → Own V → (Element → V) → (Element → V) → List Deed → ℕ → ℕ → Own V
stepped o elements held todo put taken =
    record { elements = elements; held = held; todo = todo; ran = o.ran + 1; put = o.put + put; taken = o.taken + taken }

-- what a board does next, by the first of its steps
unfoldable pub next_of : {V : Type 0} → Setting V → Own V → List Deed → Step V (Own V)
next_of k o [] = ends
next_of k o (rests ∷ rest) = goes_on (stepped o o.elements o.held rest 0 0)
next_of k o (ships q e ∷ rest) = puts q (o.elements e) (stepped o o.elements o.held rest 1 0)
next_of k o (holds c e ∷ rest) = goes_on (stepped o o.elements (written e (coefficient_of k c) o.held) rest 0 0)
next_of k o (adds_own c r e ∷ rest) =
    goes_on (stepped o o.elements (written e (with_term k c (o.elements r) (o.held e)) o.held) rest 0 0)
next_of k o (adds_taken c q e ∷ rest) =
    takes q (λ letter. stepped o o.elements (written e (with_term k c letter (o.held e)) o.held) rest 0 1)
next_of k o (stores e ∷ rest) = goes_on (stepped o (written e (o.held e) o.elements) o.held rest 0 0)

-- so many boards with these steps
abbrev pub boards_that : {V : Type 0} → Setting V → ℕ → Network V (Own V)
boards_that k boards = record { boards = boards; next = λ p o. next_of k o o.todo }
