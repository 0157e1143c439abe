use Rattle.network.proofs.Theorems as theorem
use Rattle.network.proofs.theory.deeper_rows_same_end.Goals as goal

pub returns-clause-law : goal.returns-clause-law
returns-clause-law g c = theorem.deeper_rows_same_end g.row.L.Denot g.row.S.Denot
