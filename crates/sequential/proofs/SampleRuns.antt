-- The runs of the sample nest, computed. Assumes nothing.
use Rattle.std.proofs.Common.{refl}
use Rattle.layout.specs.Places.{place_of}
use Rattle.sequential.specs.Worked.{SampleRuns}

pub sample_runs : SampleRuns
unfolding place_of
sample_runs = (refl, refl, refl, refl)
