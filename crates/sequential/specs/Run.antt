-- What a nest means: its statements in order, once a sweep, on the elements of all arrays. Assumes nothing.
use Rattle.std.specs.Prelude.{ℕ, zero, suc, List, fold, slice_index_or, slice_set}
use Rattle.nest.specs.Terms.{Said, Sheet}
use Rattle.nest.specs.declared.terms.Array.{Array}
use Rattle.nest.specs.declared.terms.Mode.{Mode}
use Rattle.nest.specs.declared.terms.Mode.TheVariants.{All, Seq}
use Rattle.nest.specs.declared.terms.ReadTerm.{ReadTerm}
use Rattle.sequential.specs.declared.iteration.Iteration.{Iteration}
use Rattle.sequential.specs.Iterations.{iterations, place_in}

-- what stays as it is in a run: how values are added and multiplied, the coefficients by their numbers, the arrays;
-- `outside` stands where a list is read past its end, which no nest that keeps its ranges does
pub record Setting (V : Type 0) : Type 0 where
  pub plus : V → V → V
  pub times : V → V → V
  pub coefficients : List V
  pub arrays : List Array
  pub outside : V

abbrev pub setting_of : {V : Type 0} → (V → V → V) → (V → V → V) → List V → List Array → V → Setting V
setting_of plus times coefficients arrays outside =
    record { plus = plus; times = times; coefficients = coefficients; arrays = arrays; outside = outside }

-- the elements of all arrays, and the values held for them, each at its element's place
pub record Buffers (V : Type 0) : Type 0 where
  pub elements : List V
  pub held : List V

abbrev pub buffers_of : {V : Type 0} → List V → List V → Buffers V
buffers_of elements held = record { elements = elements; held = held }

-- a value with one term added: coefficient times element
abbrev pub with_term : {V : Type 0} → Setting V → List V → Iteration → V → ReadTerm → V
with_term k elements e value r =
    k.plus value (k.times (slice_index_or k.coefficients r.coefficient k.outside) (slice_index_or elements (place_in k.arrays r.source e) k.outside))

-- the value that a statement computes in an iteration: the base coefficient, then its terms in order
abbrev pub value_in : {V : Type 0} → Setting V → Said → List V → Iteration → V
value_in k s elements e = fold (with_term k elements e) (slice_index_or k.coefficients s.base k.outside) s.reads

-- where the target of a statement lies in an iteration
abbrev pub target_in : List Array → Said → Iteration → ℕ
target_in arrays s e = place_in arrays s.put e

-- the value of an iteration is computed, and held for its target
abbrev pub hold : {V : Type 0} → Setting V → Said → Buffers V → Iteration → Buffers V
hold k s b e = record { elements = b.elements; held = slice_set b.held (target_in k.arrays s e) (value_in k s b.elements e) }

-- the value held for the target of an iteration becomes its element
abbrev pub store : {V : Type 0} → Setting V → Said → Buffers V → Iteration → Buffers V
store k s b e =
    record { elements = slice_set b.elements (target_in k.arrays s e) (slice_index_or b.held (target_in k.arrays s e) k.outside); held = b.held }

-- both for one iteration, before the next begins
abbrev pub hold_and_store : {V : Type 0} → Setting V → Said → Buffers V → Iteration → Buffers V
hold_and_store k s b e = store k s (hold k s b e) e

-- the words for what is done in an iteration
pub data Work : Type 0 where
  Hold : Work
  Store : Work
  HoldAndStore : Work

-- what is done in an iteration, by the word for it
abbrev pub doing : {V : Type 0} → Work → Setting V → Said → Buffers V → Iteration → Buffers V
doing Hold k s b e = hold k s b e
doing Store k s b e = store k s b e
doing HoldAndStore k s b e = hold_and_store k s b e

-- a FORALL holds the value of every iteration before it stores any; a DO holds and stores iteration by iteration
abbrev pub in_mode : {V : Type 0} → Mode → Setting V → Said → List Iteration → Buffers V → Buffers V
in_mode All k s es b = fold (doing Store k s) (fold (doing Hold k s) b es) es
in_mode Seq k s es b = fold (doing HoldAndStore k s) b es

-- the buffers after a statement
abbrev pub after_statement : {V : Type 0} → Setting V → Buffers V → Said → Buffers V
after_statement k b s = in_mode s.mode k s (iterations s.i s.j) b

-- the buffers after all statements in order
abbrev pub after_sweep : {V : Type 0} → Setting V → List Said → Buffers V → Buffers V
after_sweep k statements b = fold (after_statement k) b statements

-- the buffers after a number of sweeps
abbrev pub after_sweeps : {V : Type 0} → Setting V → List Said → ℕ → Buffers V → Buffers V
after_sweeps k statements zero b = b
after_sweeps k statements (suc n) b = after_sweep k statements (after_sweeps k statements n b)

-- the buffers after the run of a nest
abbrev pub sequential_of : {V : Type 0} → (V → V → V) → (V → V → V) → List V → V → Sheet → Buffers V → Buffers V
sequential_of plus times coefficients outside n b =
    after_sweeps (setting_of plus times coefficients n.arrays outside) n.statements n.sweeps b
