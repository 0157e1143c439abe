-- The parts of a nest, as the reader collects them. Assumes nothing.
use Rattle.std.specs.Prelude.{vec_items}
use Rattle.nest.specs.Terms.{Sheet}
use Rattle.nest.specs.Views.{said_all}
use Rattle.sheet.specs.declared.reader.Parts.{Parts}

-- the parts, with lists
abbrev pub parted : Parts → Sheet
parted p = record { grid = p.grid; arrays = vec_items p.arrays; sweeps = p.sweeps; statements = said_all p.statements }
