use Rattle.std.proofs.Common.{◌≡◌, map, length, take}
use Rattle.sections.specs.MapTables.{tabled}
use Rattle.sections.proofs.tabling.tables_of.Given as goal

abbrev pub invariant-loop-which : goal.invariant-loop-which
invariant-loop-which g l = (map tabled (take l.which l.tables) ≡ map g.M.OwnerMap.meaning (take l.which l.maps)) × (length l.tables ≡ 4)
