use Rattle.std.proofs.Common.{vec_items}
use Rattle.nest.proofs.Keeps.{nest_parts}
use Rattle.nest.specs.Sound.{statement_kept}
use Rattle.nest.specs.Views.{said_all}
use Rattle.sequential.proofs.Kept.{parts_of}
use Rattle.sequential.proofs.Targets.{targets_apart}
use Rattle.sequential.proofs.ModeLaws.{each_in, modes_mean}
use Rattle.sequential.proofs.laws.statements_keep_their_meaning.Goals as goal

pub returns-clause-apart : goal.returns-clause-apart
returns-clause-apart g c = λ s m.
    let nest = c.args.nest.now in
    let all = (nest_parts nest.grid (vec_items nest.arrays) nest.sweeps (said_all nest.statements) nest.kept).each_statement in
    targets_apart _ s (parts_of _ s (each_in (statement_kept (vec_items nest.arrays)) _ s all m))

pub returns-clause-modes : goal.returns-clause-modes
returns-clause-modes g c = λ s m.
    let nest = c.args.nest.now in
    let all = (nest_parts nest.grid (vec_items nest.arrays) nest.sweeps (said_all nest.statements) nest.kept).each_statement in
    modes_mean _ _ s (each_in (statement_kept (vec_items nest.arrays)) _ s all m)
