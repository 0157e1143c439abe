-- The deal that a map in runs stands for.
use Rattle.owner_map.specs.declared.makes.Make.TheVariants.{CyclicBy}
use Rattle.owner_map.specs.declared.runs.BlockCyclic.{BlockCyclic}
use Rattle.owner_map.specs.Meaning.{Deal}
use Rattle.owner_map.specs.Rules.{deal_of}

abbrev pub runs_deal : BlockCyclic → Deal
runs_deal m = deal_of (CyclicBy m.width) m.numbers.boards m.numbers.length
