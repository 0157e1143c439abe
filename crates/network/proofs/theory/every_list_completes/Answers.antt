use Rattle.network.proofs.Theorems as theorem
use Rattle.network.proofs.theory.every_list_completes.Goals as goal

pub returns-clause-law : goal.returns-clause-law
returns-clause-law g c = theorem.every_list_completes g.row.L.Denot g.row.S.Denot
