-- A small nest and what its run gives. Assumes nothing.
use Rattle.std.specs.Prelude.{◌≡◌, ℕ, ◌+◌, ◌*◌, true, List, [], ◌∷◌, replicate}
use Rattle.nest.specs.Terms.{Sheet}
use Rattle.nest.specs.Sound.{nest_kept}
use Rattle.nest.specs.declared.terms.MapWord.TheVariants.{One, Block}
use Rattle.nest.specs.declared.terms.Mode.{Mode}
use Rattle.nest.specs.declared.terms.Mode.TheVariants.{All, Seq}
use Rattle.nest.specs.declared.terms.Variable.TheVariants.{I, J}
use Rattle.nest.specs.declared.terms.Offset.TheVariants.{Plus, Minus}
use Rattle.sequential.specs.Run.{buffers_of, sequential_of}

-- one array of six rows and one column over two boards; once, for i from 2 to 6, element i becomes element i - 1 times
-- coefficient 1, added to coefficient 0
abbrev pub sample : Mode → Sheet
sample m =
    record {
      grid = record { rows = 2; columns = 1 };
      arrays = record { rows = 6; columns = 1; row_map = Block; column_map = One } ∷ [];
      sweeps = 1;
      statements = record {
        mode = m;
        i = record { low = 2; high = 6 };
        j = record { low = 1; high = 1 };
        put = record {
          array = 0;
          row = record { variable = I; factor = 1; offset = Plus 0 };
          column = record { variable = J; factor = 1; offset = Plus 0 };
        };
        base = 0;
        reads = record {
          coefficient = 1;
          source = record {
            array = 0;
            row = record { variable = I; factor = 1; offset = Minus 1 };
            column = record { variable = J; factor = 1; offset = Plus 0 };
          };
        }
            ∷ [];
      }
          ∷ [];
    }

-- the elements after its run, in natural numbers, where coefficient n is n and nothing was held
abbrev pub sample_after : Mode → List ℕ → List ℕ
sample_after m elements = (sequential_of ◌+◌ ◌*◌ (0 ∷ 1 ∷ 2 ∷ 3 ∷ 4 ∷ 5 ∷ 6 ∷ 7 ∷ []) 0 (sample m) (buffers_of elements (replicate 6 0))).elements

-- it keeps the ranges of a nest
abbrev pub SoundSample : Mode → Type 0
SoundSample m = nest_kept (sample m).grid (sample m).arrays (sample m).sweeps (sample m).statements ≡ true

-- a FORALL moves each element on by one; a DO carries the first through
abbrev pub SampleRuns : Type 0
SampleRuns =
    SoundSample All
    × (sample_after All (11 ∷ 22 ∷ 33 ∷ 44 ∷ 55 ∷ 66 ∷ []) ≡ 11 ∷ 11 ∷ 22 ∷ 33 ∷ 44 ∷ 55 ∷ [])
    × SoundSample Seq
    × (sample_after Seq (11 ∷ 22 ∷ 33 ∷ 44 ∷ 55 ∷ 66 ∷ []) ≡ 11 ∷ 11 ∷ 11 ∷ 11 ∷ 11 ∷ 11 ∷ [])
