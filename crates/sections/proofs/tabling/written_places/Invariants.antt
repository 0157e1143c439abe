use Rattle.sections.proofs.Tablings.{PlacesTo}
use Rattle.sections.proofs.tabling.written_places.Given as goal

abbrev pub invariant-loop-before : goal.invariant-loop-before
invariant-loop-before g l = PlacesTo (g.M.OwnerMap.meaning l.map) l.owners l.ranks l.positions l.before
