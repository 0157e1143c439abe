-- What the run of a statement means, iteration by iteration. Assumes nothing.
use Rattle.std.specs.Prelude.{◌≡◌, ℕ, ◌⊎◌, List, [], ◌∷◌, map, length, ◌≢◌, slice_index_or}
use Rattle.nest.specs.Terms.{Said}
use Rattle.nest.specs.declared.terms.Array.{Array}
use Rattle.nest.specs.declared.terms.Mode.{Mode}
use Rattle.nest.specs.declared.terms.Mode.TheVariants.{All, Seq}
use Rattle.nest.specs.declared.terms.ReadTerm.{ReadTerm}
use Rattle.layout.specs.Places.{total}
use Rattle.sequential.specs.declared.iteration.Iteration.{Iteration}
use Rattle.sequential.specs.Iterations.{iterations}
use Rattle.sequential.specs.Run.{Setting, setting_of, Buffers, value_in, target_in, after_statement}

-- one of a list
abbrev pub In : {X : Type 0} → X → List X → Type 0
In x [] = ⊥
In x (y ∷ ys) = (x ≡ y) ⊎ In x ys

-- no two of a list are equal
abbrev pub Distinct : {X : Type 0} → List X → Type 0
Distinct [] = Unit {0}
Distinct (x ∷ xs) = (In x xs → ⊥) × Distinct xs

-- the same statement, stored at the end or at once
abbrev pub with_mode : Mode → Said → Said
with_mode m s = record { mode = m; i = s.i; j = s.j; put = s.put; base = s.base; reads = s.reads }

-- the places of a statement's targets, iteration by iteration
abbrev pub targets_of : List Array → Said → List ℕ
targets_of arrays s = map (target_in arrays s) (iterations s.i s.j)

-- every target holds the value computed from the elements before the statement, in both buffers; nothing else changed
pub record StoredTogether {V : Type 0} (k : Setting V) (s : Said) (before after : Buffers V) : Type 0 where
  pub element : (e : Iteration) → In e (iterations s.i s.j) → slice_index_or after.elements (target_in k.arrays s e) k.outside ≡ value_in k s before.elements e
  pub held : (e : Iteration) → In e (iterations s.i s.j) → slice_index_or after.held (target_in k.arrays s e) k.outside ≡ value_in k s before.elements e
  pub other_elements : (n : ℕ) → (In n (targets_of k.arrays s) → ⊥) → slice_index_or after.elements n k.outside ≡ slice_index_or before.elements n k.outside
  pub other_held : (n : ℕ) → (In n (targets_of k.arrays s) → ⊥) → slice_index_or after.held n k.outside ≡ slice_index_or before.held n k.outside
  pub elements_length : length after.elements ≡ length before.elements
  pub held_length : length after.held ≡ length before.held

-- no read of a statement is of the array that it writes
abbrev pub ReadsOthers : Said → Type 0
ReadsOthers s = (r : ReadTerm) → In r s.reads → r.source.array ≢ s.put.array

-- no two iterations of a statement have one target
abbrev pub TargetsApart : List Array → Said → Type 0
TargetsApart arrays s = Distinct (targets_of arrays s)

-- a FORALL stores what it computed from the elements before it; and where a statement reads only arrays that it does not
-- write, a DO is the same as a FORALL
abbrev pub ModesMean : (V : Type 0) → List Array → Said → Type 0
ModesMean V arrays s =
    (plus times : V → V → V) (coefficients : List V) (d : V) (b : Buffers V)
    → length b.elements ≡ total arrays → length b.held ≡ total arrays
    → StoredTogether (setting_of plus times coefficients arrays d) s b (after_statement (setting_of plus times coefficients arrays d) b (with_mode All s))
    × (ReadsOthers s → after_statement (setting_of plus times coefficients arrays d) b (with_mode Seq s) ≡ after_statement (setting_of plus times coefficients arrays d) b (with_mode All s))
