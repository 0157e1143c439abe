use Rattle.std.proofs.Common.{[], ◌∷◌, get_or, sym, ap, ◌∙◌}
use Rattle.sequential.specs.Worked.{sample_after}
use Rattle.sequential.proofs.SampleRuns.{sample_runs}
use Rattle.sequential.proofs.laws.last_of_sample.Goals as goal

pub returns-in-All : goal.returns-in-All
returns-in-All c =
    record {
      value = ap (λ xs. get_or xs 5 0) (sym sample_runs.1) ∙ ap (λ m. get_or (sample_after m (11 ∷ 22 ∷ 33 ∷ 44 ∷ 55 ∷ 66 ∷ [])) 5 0) (sym c.in-All.is);
      cases = sample_runs;
    }

pub returns-in-Seq : goal.returns-in-Seq
returns-in-Seq c =
    record {
      value = ap (λ xs. get_or xs 5 0) (sym sample_runs.3) ∙ ap (λ m. get_or (sample_after m (11 ∷ 22 ∷ 33 ∷ 44 ∷ 55 ∷ 66 ∷ [])) 5 0) (sym c.in-Seq.is);
      cases = sample_runs;
    }
