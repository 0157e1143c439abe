use Rattle.std.proofs.Common.{◌≤◌, length, sym, subst}
use Rattle.nest.specs.Nests.{shown}
use Rattle.layout.specs.Places.{Small}
use Rattle.layout.proofs.Starts.{kept_small}
use Rattle.layout.proofs.table.Layout.new.Goals as goal

pub layout_of-requires : goal.layout_of-requires
layout_of-requires c =
    subst (λ l. (length l ≤ 4) × Small l) (sym c.arrays.ensures)
    (kept_small (shown c.args.nest.now).grid (shown c.args.nest.now).arrays (shown c.args.nest.now).sweeps (shown c.args.nest.now).statements c.args.nest.now.kept)
