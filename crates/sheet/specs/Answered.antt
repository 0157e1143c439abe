-- What the answers of the reader stand for. Assumes nothing.
use Rattle.std.specs.Prelude.{Bool, true, false, Ok, Err, Result}
use Rattle.tokens.specs.declared.cursor.Cursor.{Cursor}
use Rattle.tokens.specs.Texts.{Read, got, refused}
use Rattle.tokens.specs.Views.{before}
use Rattle.nest.specs.declared.fault.FieldFault.{FieldFault}
use Rattle.nest.specs.declared.fault.NestFault.{NestFault}
use Rattle.nest.specs.declared.fault.SheetFault.{SheetFault}
use Rattle.nest.specs.declared.fault.SheetFault.TheVariants.{Line, Field, Nest, NoMemory}
use Rattle.nest.specs.Faults.{nest_told, sheet_told}
use Rattle.sheet.specs.Verdicts.{Verdict, fine, wrong}

-- whether a sheet was not read for want of memory
abbrev pub lost : {V : Type 0} → Result V SheetFault → Bool
lost (Ok v) = false
lost (Err (Line f)) = false
lost (Err (Field f)) = false
lost (Err (Nest f)) = false
lost (Err NoMemory) = true

-- an answer about fields, by its value or what is told of its fault
abbrev pub field_verdict : {V : Type 0} → Result V FieldFault → Verdict V
field_verdict (Ok v) = fine v
field_verdict (Err f) = wrong 2 f.place.line f.place.byte

abbrev pub nest_verdict : {V : Type 0} → Result V NestFault → Verdict V
nest_verdict (Ok v) = fine v
nest_verdict (Err f) = wrong (nest_told f).number (nest_told f).line (nest_told f).byte

abbrev pub sheet_verdict : {V W : Type 0} → (V → W) → Result V SheetFault → Verdict W
sheet_verdict view (Ok v) = fine (view v)
sheet_verdict view (Err f) = wrong (sheet_told f).number (sheet_told f).line (sheet_told f).byte

-- an answer of the reader, with the text that the cursor is then before
abbrev pub sheet_answer : {V W : Type 0} → (V → W) → Result V SheetFault → Cursor → Read W
sheet_answer view (Ok v) c = got (view v) (before c)
sheet_answer view (Err f) c = refused (sheet_told f).number (sheet_told f).line (sheet_told f).byte
