-- The words of a sheet, as it writes them. Assumes nothing.
use Rattle.std.specs.Prelude.{ℕ, List, ◌++◌, codes, decimal}
use Rattle.nest.specs.declared.terms.Mode.{Mode}
use Rattle.nest.specs.declared.terms.Mode.TheVariants.{All, Seq}
use Rattle.nest.specs.declared.terms.MapWord.{MapWord}
use Rattle.nest.specs.declared.terms.MapWord.TheVariants.{One, Block, Cyclic, CyclicBy}
use Rattle.nest.specs.declared.terms.Variable.{Variable}
use Rattle.nest.specs.declared.terms.Variable.TheVariants.{I, J}
use Rattle.nest.specs.declared.terms.Offset.{Offset}
use Rattle.nest.specs.declared.terms.Offset.TheVariants.{Plus, Minus}

-- a map, as a sheet writes it
abbrev pub map_text : MapWord → List ℕ
map_text One = codes "one"
map_text Block = codes "block"
map_text Cyclic = codes "cyclic"
map_text (CyclicBy k) = codes "cyclic:" ++ decimal k

-- when values are stored, as a sheet writes it
abbrev pub mode_text : Mode → List ℕ
mode_text All = codes "all"
mode_text Seq = codes "seq"

-- a variable, as a sheet writes it
abbrev pub variable_text : Variable → List ℕ
variable_text I = codes "i"
variable_text J = codes "j"

-- an offset, as a sheet writes it
abbrev pub offset_text : Offset → List ℕ
offset_text (Plus c) = decimal c
offset_text (Minus c) = codes "-" ++ decimal c
