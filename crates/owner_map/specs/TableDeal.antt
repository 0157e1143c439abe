-- The deal that a table of owners stands for: the filled part of its row.
use Rattle.std.specs.Prelude.{take}
use Rattle.owner_map.specs.declared.table.OwnerTable.{OwnerTable}
use Rattle.owner_map.specs.Meaning.{Deal}
use Rattle.owner_map.specs.Listed.{listed}

abbrev pub table_deal : OwnerTable → Deal
table_deal m = listed m.numbers.boards (take m.numbers.length m.row)
