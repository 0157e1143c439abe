-- What the compiler answers. Assumes nothing.
use Rattle.std.specs.Prelude.{◌≡◌, Ok, Err, Result}
use Rattle.nest.specs.Terms.{Sheet}
use Rattle.sections.specs.Sections.{Deals, Fits}
use Rattle.compiler.specs.declared.program.Program.{Program}
use Rattle.compiler.specs.declared.refusal.CompileRefusal.{CompileRefusal}
use Rattle.compiler.specs.declared.refusal.CompileRefusal.TheVariants.{MapsDiffer, NoMemory}
use Rattle.compiler.specs.Compiled.{program_of}
use Rattle.compiler.specs.Programs.{compiled}

-- why a nest is refused: its maps do not fit it, or they do and there was no memory
abbrev pub Refused : Sheet → Deals → CompileRefusal → Type 0
Refused n deals MapsDiffer = Fits n.grid n.arrays deals → ⊥
Refused n deals NoMemory = Fits n.grid n.arrays deals

-- where the maps fit, the program of the nest
abbrev pub Answered : Sheet → Deals → Result Program CompileRefusal → Type 0
Answered n deals (Ok p) = Fits n.grid n.arrays deals × (compiled p ≡ program_of n deals)
Answered n deals (Err e) = Refused n deals e
