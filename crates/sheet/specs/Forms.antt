-- The form of each kind of line: its key, and the kinds of its fields. Assumes nothing.
use Rattle.std.specs.Prelude.{[], ◌∷◌, codes}
use Rattle.tokens.specs.declared.extent.FieldKind.TheVariants.{Number, Signed, Mode, Variable, Map}
use Rattle.tokens.specs.Texts.{Form}

-- boards by rows and by columns
abbrev pub grid_form : Form
grid_form = record { key = codes "grid"; kinds = Number ∷ Number ∷ [] }

-- how many arrays there are
abbrev pub arrays_form : Form
arrays_form = record { key = codes "arrays"; kinds = Number ∷ [] }

-- rows, columns, the map of the rows, the map of the columns
abbrev pub array_form : Form
array_form = record { key = codes "array"; kinds = Number ∷ Number ∷ Map ∷ Map ∷ [] }

-- how often all statements run
abbrev pub sweeps_form : Form
sweeps_form = record { key = codes "sweeps"; kinds = Number ∷ [] }

-- how many statements there are
abbrev pub stmts_form : Form
stmts_form = record { key = codes "stmts"; kinds = Number ∷ [] }

-- when values are stored, then the ends of the range of i and of j
abbrev pub stmt_form : Form
stmt_form = record { key = codes "stmt"; kinds = Mode ∷ Number ∷ Number ∷ Number ∷ Number ∷ [] }

-- the target array, then factor and offset of the row and of the column
abbrev pub put_form : Form
put_form = record { key = codes "put"; kinds = Number ∷ Number ∷ Signed ∷ Number ∷ Signed ∷ [] }

-- the number of the base coefficient
abbrev pub base_form : Form
base_form = record { key = codes "base"; kinds = Number ∷ [] }

-- how many reads the statement has
abbrev pub reads_form : Form
reads_form = record { key = codes "reads"; kinds = Number ∷ [] }

-- coefficient, array, then variable, factor and offset of the row and of the column
abbrev pub read_form : Form
read_form = record { key = codes "read"; kinds = Number ∷ Number ∷ Variable ∷ Number ∷ Signed ∷ Variable ∷ Number ∷ Signed ∷ [] }
