-- What the written answers of fitting maps keep.
use Rattle.std.proofs.Common.{◌≡◌, ◌<◌, ◌≤◌, List, map, length, take, sym, ap, ◌∙◌, subst, ap₂, arith}
use Rattle.std.proofs.lemmas.List.{length-map}
use Rattle.nest.specs.declared.terms.Array.{Array}
use Rattle.nest.specs.declared.terms.Grid.{Grid}
use Rattle.owner_map.specs.Meaning.{Deal}
use Rattle.sections.specs.declared.map_table.MapTable.{MapTable}
use Rattle.sections.specs.Holdings.{Startable}
use Rattle.sections.specs.MapTables.{tabled}
use Rattle.sections.specs.Sections.{EachSound, Deals, Fits, dealt}
use Rattle.sections.proofs.NestRoom.{Room}
use Rattle.sections.proofs.PartStarts.{part_room}

-- where the parts of fitting deals begin can be worked out
startable : (grid : Grid) (arrays : List Array) (deals : Deals) → Fits grid arrays deals → EachSound deals → Room grid arrays → Startable grid deals
startable grid arrays deals fit sound room = (
  room.boards,
  omega (arith, fit.0, room.few),
  omega (arith, fit.0, fit.1),
  λ t on. let there : t < length arrays = omega (arith, fit.0) in ((fit.2 t there).0.0, (fit.2 t there).1.0),
  λ p t h. omega (arith, part_room grid arrays deals fit sound p t h.0 h.1, room.elements),
)

-- as many maps as arrays
module _ {X Y : Type 0} (f : X → Deal) (h : Y → Deal) (grid : Grid) (arrays : List Array) (xs : List X) (ys : List Y) (fit : Fits grid arrays (dealt (map f xs) (map h ys))) (room : Room grid arrays) where
  pub rows_count : (1 ≤ length xs) × (length xs ≤ 4)
  rows_count = (omega (arith, room.some, fit.0, length-map xs f), omega (arith, room.few, fit.0, length-map xs f))

  pub columns_count : (1 ≤ length ys) × (length ys ≤ 4)
  columns_count = (omega (arith, room.some, fit.1, length-map ys h), omega (arith, room.few, fit.1, length-map ys h))

  counts_even : length xs ≡ length ys
  counts_even = omega (arith, fit.0, fit.1, length-map xs f, length-map ys h)

  -- their tables mean what they mean
  module _ (rows columns : List MapTable) (same_rows : map tabled (take (length xs) rows) ≡ map f xs) (same_columns : map tabled (take (length ys) columns) ≡ map h ys) where
    pub deals_same : dealt (map tabled (take (length xs) rows)) (map tabled (take (length xs) columns)) ≡ dealt (map f xs) (map h ys)
    deals_same = ap₂ dealt same_rows (ap (λ n. map tabled (take n columns)) counts_even ∙ same_columns)

    pub tables_startable : (over : Grid) → over ≡ grid → EachSound (dealt (map f xs) (map h ys)) → Startable over (dealt (map tabled (take (length xs) rows)) (map tabled (take (length xs) columns)))
    tables_startable over is sound =
        subst (λ g. Startable g (dealt (map tabled (take (length xs) rows)) (map tabled (take (length xs) columns)))) (sym is)
        (subst (Startable grid) (sym deals_same) (startable grid arrays (dealt (map f xs) (map h ys)) fit sound room))
