-- The refusals of the compiler, by number. Assumes nothing.
use Rattle.std.specs.Prelude.{ℕ}
use Rattle.compiler.specs.declared.refusal.CompileRefusal.{CompileRefusal}
use Rattle.compiler.specs.declared.refusal.CompileRefusal.TheVariants.{MapsDiffer, NoMemory}

-- the number that each refusal is known by; want of memory has none, and is told by 0
abbrev pub refusal_number : CompileRefusal → ℕ
refusal_number MapsDiffer = 7
refusal_number NoMemory = 0
