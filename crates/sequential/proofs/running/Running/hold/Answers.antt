use Rattle.nest.specs.Views.{said}
use Rattle.sequential.proofs.Kept.{parts_of, target_reached}
use Rattle.sequential.proofs.running.Running.hold.Goals as goal

pub place-requires : goal.place-requires
place-requires g c = target_reached c.args.self.now.layout.arrays.now (said c.args.self.now.statement.now) (parts_of _ _ c.args.self.now.kept) c.args.at c.requires.within
