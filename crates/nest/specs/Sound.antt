-- The ranges that a nest keeps, and what they mean. Assumes nothing.
use Rattle.std.specs.Prelude.{ℕ, ◌*◌, Bool, true, false, not, ◌&&◌, List, [], ◌∷◌, length, nat_le, nat_lt, slice_index_or}
use Rattle.nest.specs.declared.terms.Grid.{Grid}
use Rattle.nest.specs.declared.terms.MapWord.{MapWord}
use Rattle.nest.specs.declared.terms.MapWord.TheVariants.{One, Block, Cyclic, CyclicBy}
use Rattle.nest.specs.declared.terms.Array.{Array}
use Rattle.nest.specs.declared.terms.Range.{Range}
use Rattle.nest.specs.declared.terms.Variable.{Variable}
use Rattle.nest.specs.declared.terms.Variable.TheVariants.{I, J}
use Rattle.nest.specs.declared.terms.Subscript.{Subscript}
use Rattle.nest.specs.declared.terms.Access.{Access}
use Rattle.nest.specs.declared.terms.ReadTerm.{ReadTerm}
use Rattle.nest.specs.Terms.{far, inside, nowhere, Said}

-- a number from low to high
abbrev pub between : ℕ → ℕ → ℕ → Bool
between low high n = nat_le low n && nat_le n high

-- every one of a list
abbrev pub each : {X : Type 0} → (X → Bool) → List X → Bool
each f [] = true
each f (x ∷ xs) = f x && each f xs

abbrev pub grid_kept : Grid → Bool
grid_kept g = between 1 8 g.rows && between 1 8 g.columns && nat_le (g.rows * g.columns) 8

abbrev pub map_kept : MapWord → Bool
map_kept One = true
map_kept Block = true
map_kept Cyclic = true
map_kept (CyclicBy k) = between 1 32 k

abbrev pub array_kept : Array → Bool
array_kept a = between 1 32 a.rows && between 1 32 a.columns && map_kept a.row_map && map_kept a.column_map

abbrev pub range_kept : Range → Bool
range_kept r = nat_le 1 r.low && nat_le r.low r.high && nat_le r.high 32

-- a subscript with a factor from least to 4, and an offset from -64 to 64
abbrev pub subscript_kept : ℕ → Subscript → Bool
subscript_kept least s = between least 4 s.factor && nat_le (far s.offset) 64

-- an element of an array that is there, inside it in each iteration
abbrev pub access_kept : ℕ → List Array → Range → Range → Access → Bool
access_kept least arrays i j a =
    nat_lt a.array (length arrays) && subscript_kept least a.row && subscript_kept least a.column
    && inside i j (slice_index_or arrays a.array nowhere).rows a.row && inside i j (slice_index_or arrays a.array nowhere).columns a.column

-- whether a variable is i; otherwise it is j
abbrev pub is_i : Variable → Bool
is_i I = true
is_i J = false

abbrev pub read_kept : List Array → Range → Range → ReadTerm → Bool
read_kept arrays i j r = nat_le r.coefficient 7 && access_kept 0 arrays i j r.source

-- the target's row goes by i and its column by j, with factors from 1
abbrev pub statement_kept : List Array → Said → Bool
statement_kept arrays s =
    range_kept s.i && range_kept s.j && is_i s.put.row.variable && not (is_i s.put.column.variable)
    && access_kept 1 arrays s.i s.j s.put && nat_le s.base 7 && nat_le (length s.reads) 4 && each (read_kept arrays s.i s.j) s.reads

-- everything that a nest keeps
abbrev pub nest_kept : Grid → List Array → ℕ → List Said → Bool
nest_kept grid arrays sweeps statements =
    grid_kept grid && between 1 4 (length arrays) && each array_kept arrays && nat_le sweeps 1000
    && between 1 8 (length statements) && each (statement_kept arrays) statements
