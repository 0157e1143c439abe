-- The number and the place of each fault. Assumes nothing.
use Rattle.std.specs.Prelude.{ℕ, List, ◌++◌, codes, decimal}
use Rattle.tokens.specs.declared.part.Place.{Place}
use Rattle.nest.specs.declared.told.Told.{Told}
use Rattle.nest.specs.declared.fault.NestFault.{NestFault}
use Rattle.nest.specs.declared.fault.NestFault.TheVariants.{TooManyBoards, NoSuchArray, EmptyRange, LeavesArray}
use Rattle.nest.specs.declared.fault.SheetFault.{SheetFault}
use Rattle.nest.specs.declared.fault.SheetFault.TheVariants.{Line, Field, Nest, NoMemory}

-- a refusal of a number at a place
abbrev pub told : ℕ → Place → Told
told n p = record { number = n; line = p.line; byte = p.byte }

-- what is told of each fault of the nest
abbrev pub nest_told : NestFault → Told
nest_told (TooManyBoards p) = told 3 p
nest_told (NoSuchArray p) = told 4 p
nest_told (EmptyRange p) = told 5 p
nest_told (LeavesArray p) = told 6 p

-- what is told of each fault of a sheet; want of memory has no number and no place
abbrev pub sheet_told : SheetFault → Told
sheet_told (Line f) = told 1 f.place
sheet_told (Field f) = told 2 f.place
sheet_told (Nest f) = nest_told f
sheet_told NoMemory = record { number = 0; line = 0; byte = 0 }

-- the line that the program prints of a refusal
abbrev pub fault_line : Told → List ℕ
fault_line t = codes "fault=" ++ (decimal t.number ++ (codes "," ++ (decimal t.line ++ (codes "," ++ decimal t.byte))))
