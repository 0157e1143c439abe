-- The elements that a statement names in an iteration are there. Assumes nothing.
use Rattle.std.proofs.Common.{List}
use Rattle.nest.specs.Terms.{Said}
use Rattle.nest.specs.declared.terms.Array.{Array}
use Rattle.nest.specs.declared.terms.ReadTerm.{ReadTerm}
use Rattle.sequential.specs.Iterations.{iterations}
use Rattle.sequential.specs.Laws.{In}
use Rattle.sequential.specs.declared.iteration.Iteration.{Iteration}
use Rattle.sequential.proofs.Kept.{Parts, reached, target_reached}
use Rattle.sequential.proofs.Targets.{in_iterations}
use Rattle.compiler.specs.Cells.{element_at}
use Rattle.compiler.proofs.OrderLaws.{read_kept_lem}
use Rattle.schedule.specs.Start.{There}

module _ (arrays : List Array) (s : Said) (kept : Parts arrays s) (e : Iteration) (m : In e (iterations s.i s.j)) where
  pub target_there : There arrays (element_at s.put e)
  target_there = (target_reached arrays s kept e (in_iterations s e m)).element

  pub read_there : (r : ReadTerm) → In r s.reads → There arrays (element_at r.source e)
  read_there r l = (reached arrays s kept e (in_iterations s e m) 0 r.source (read_kept_lem arrays s r kept l)).element
