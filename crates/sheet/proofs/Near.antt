-- What the subscripts of a sheet reach is a number that the code holds. Assumes nothing.
use Rattle.std.proofs.Common.{ℕ, ◌+◌, ◌*◌, ◌^◌, ◌<◌, ◌≤◌, arith}
use Rattle.std.proofs.Math.Nat.{mul-le-mul_left}
use Rattle.nest.specs.declared.terms.Subscript.{Subscript}
use Rattle.nest.specs.Terms.{far}
use Rattle.sheet.specs.Verdicts.{Near}

pub near_small : (s : Subscript) (v : ℕ) → Near s → v ≤ 32 → s.factor * v + far s.offset < 2 ^ 64
near_small s v h k = omega (arith, mul-le-mul_left {m = v} {n = 32} s.factor k)
