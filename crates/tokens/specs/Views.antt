-- What the code's tokens and cursor stand for. Assumes nothing.
use Rattle.std.specs.Prelude.{Ok, Err, Result}
use Rattle.tokens.specs.declared.part.Part.{Part}
use Rattle.tokens.specs.declared.part.Token.{Token}
use Rattle.tokens.specs.declared.part.Token.TheVariants.{Number, Word, Key}
use Rattle.tokens.specs.declared.fault.LineFault.{LineFault}
use Rattle.tokens.specs.declared.cursor.Cursor.{Cursor}
use Rattle.tokens.specs.Texts.{Text, Piece, Read, got, refused}

-- a part, by its bytes and its place
abbrev pub piece : Part → Piece
piece p = record { text = p.text.now; line = p.place.line; byte = p.place.byte }

-- the part that a token holds
abbrev pub part_of : Token → Piece
part_of (Number p) = piece p
part_of (Word p) = piece p
part_of (Key p) = piece p

-- what a cursor has before it
abbrev pub before : Cursor → Text
before c = record { rest = c.rest.now; line = c.place.line; byte = c.place.byte }

-- an answer, with the text that the cursor is then before
abbrev pub answer : {V W : Type 0} → (V → W) → Result V LineFault → Cursor → Read W
answer view (Ok v) c = got (view v) (before c)
answer view (Err f) c = refused 1 f.place.line f.place.byte
