-- The boards that own an access, looked up by loop value. Assumes nothing.
use Rattle.std.specs.Prelude.{◌≡◌, ℕ, ◌+◌, ◌*◌, ◌<◌, ◌≤◌, List, length, slice_index}
use Rattle.nest.specs.Terms.{Said, far, position}
use Rattle.nest.specs.declared.terms.Access.{Access}
use Rattle.nest.specs.declared.terms.Array.{Array}
use Rattle.nest.specs.declared.terms.Range.{Range}
use Rattle.nest.specs.declared.terms.Subscript.{Subscript}
use Rattle.owner_map.specs.Meaning.{Deal, Position, owner}
use Rattle.sections.specs.Sections.{Deals}
use Rattle.sequential.specs.Iterations.{variable_in}
use Rattle.sequential.specs.Ready.{Within, Reached}
use Rattle.sequential.specs.declared.iteration.Iteration.{Iteration}
use Rattle.compiler.specs.declared.owners.Owners.{Owners}
use Rattle.compiler.specs.declared.owners.OwnersAlong.{OwnersAlong}
use Rattle.compiler.specs.Spans.{seat}
use Rattle.compiler.specs.Cells.{board_at}

-- a subscript names a position of a deal at each value of a range, and no number on the way is large
abbrev pub Stays : Deal → Subscript → Range → Type 0
Stays d s r = (s.factor ≤ 4) × (far s.offset ≤ 64) × (r.high ≤ 32) × ((v : ℕ) → r.low ≤ v → v ≤ r.high → Position d (position s v))

-- a table has the owner of the position that a subscript names at each value of a range
abbrev pub Along : Deal → Subscript → Range → OwnersAlong → Type 0
Along d s r table =
    (length table.owners ≡ 33) × (table.variable ≡ s.variable) × ((v : ℕ) → r.low ≤ v → v ≤ r.high → slice_index table.owners v ≡ owner d (position s v))

-- the owner that a table tells in an iteration, and that it has one
abbrev pub owner_by : OwnersAlong → Iteration → ℕ
owner_by table e = slice_index table.owners (variable_in table.variable e)

abbrev pub HasOwner : OwnersAlong → Iteration → Type 0
HasOwner table e = (length table.owners ≡ 33) × (variable_in table.variable e ≤ 32)

-- the board that two tables tell in an iteration
abbrev pub board_by : Owners → Iteration → ℕ
board_by o e = owner_by o.rows e + o.grid_rows * owner_by o.columns e

-- an iteration has its board in the tables
abbrev pub Answers : Owners → Iteration → Type 0
Answers o e = HasOwner o.rows e × HasOwner o.columns e × (board_by o e < 8)

-- an access names an element in each iteration of a statement
abbrev pub Reaches : List Array → Said → Access → Type 0
Reaches arrays s a = (e : Iteration) → Within s e → Reached arrays a e

-- the tables tell the board of an access in each iteration of a statement
abbrev pub Tells : ℕ → Deals → Said → Access → Owners → Type 0
Tells q deals s a o = (e : Iteration) → Within s e → Answers o e × (board_by o e ≡ board_at (seat q deals 0) a e)
