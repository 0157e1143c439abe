-- The deal that a table of answers stands for.
use Rattle.std.specs.Prelude.{take}
use Rattle.owner_map.specs.Listed.{listed}
use Rattle.owner_map.specs.Meaning.{Deal}
use Rattle.sections.specs.declared.map_table.MapTable.{MapTable}

abbrev pub tabled : MapTable → Deal
tabled m = listed m.boards (take m.size m.owners)
