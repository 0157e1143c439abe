-- The refusals, by number.
use Rattle.std.specs.Prelude.{ℕ}
use Rattle.sections.specs.declared.refusal.LayoutRefusal.{LayoutRefusal}
use Rattle.sections.specs.declared.refusal.LayoutRefusal.TheVariants.{MapsDiffer, WrongLength}

-- the number that each refusal is known by; none carries a value
abbrev pub number : LayoutRefusal → ℕ
number MapsDiffer = 7
number WrongLength = 8
