-- The maps that a sheet's words stand for. Assumes nothing.
use Rattle.nest.specs.declared.terms.Array.{Array}
use Rattle.nest.specs.declared.terms.Grid.{Grid}
use Rattle.nest.specs.declared.terms.MapWord.{MapWord}
use Rattle.nest.specs.declared.terms.MapWord.TheVariants.{One as OneWord, Block as BlockWord, Cyclic as CyclicWord, CyclicBy as CyclicByWord}
use Rattle.owner_map.specs.declared.makes.Make.{Make}
use Rattle.owner_map.specs.declared.makes.Make.TheVariants.{One, Block, Cyclic, CyclicBy}
use Rattle.owner_map.specs.Meaning.{Deal}
use Rattle.owner_map.specs.Rules.{Makeable, deal_of}
use Rattle.dealing.specs.declared.dimension.Dimension.{Dimension}
use Rattle.dealing.specs.declared.dimension.Dimension.TheVariants.{Rows, Columns}

-- each word names the make of its name
abbrev pub make_of : MapWord → Make
make_of OneWord = One
make_of BlockWord = Block
make_of CyclicWord = Cyclic
make_of (CyclicByWord k) = CyclicBy k

-- how the rows of an array are dealt over the rows of a grid
abbrev pub row_deal : Grid → Array → Deal
row_deal g a = deal_of (make_of a.row_map) g.rows a.rows

-- how the columns of an array are dealt over the columns of a grid
abbrev pub column_deal : Grid → Array → Deal
column_deal g a = deal_of (make_of a.column_map) g.columns a.columns

-- the two dimensions of an array
abbrev pub deal_over : Dimension → Grid → Array → Deal
deal_over Rows g a = row_deal g a
deal_over Columns g a = column_deal g a

-- the numbers of a dimension's map are those of a making
abbrev pub Dealable : Dimension → Grid → Array → Type 0
Dealable Rows g a = Makeable (make_of a.row_map) g.rows a.rows
Dealable Columns g a = Makeable (make_of a.column_map) g.columns a.columns
