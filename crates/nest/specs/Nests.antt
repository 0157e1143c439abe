-- A nest, with its parts as lists. Assumes nothing.
use Rattle.std.specs.Prelude.{vec_items}
use Rattle.nest.specs.declared.nest.Nest.{Nest}
use Rattle.nest.specs.Terms.{Sheet}
use Rattle.nest.specs.Views.{said_all}

-- what a nest says
abbrev pub shown : Nest → Sheet
shown n = record { grid = n.grid; arrays = vec_items n.arrays; sweeps = n.sweeps; statements = said_all n.statements }
