-- What the text of a field says. Assumes nothing.
use Rattle.std.specs.Prelude.{ℕ, ◌+◌, ◌-◌, ◌*◌, min, Bool, false, cond, List, [], ◌∷◌, ◌==◌}
use Rattle.tokens.specs.declared.extent.FieldKind.{FieldKind}
use Rattle.tokens.specs.declared.extent.FieldKind.TheVariants.{Number, Signed, Mode, Variable, Map}
use Rattle.tokens.specs.declared.part.Token.{Token}
use Rattle.tokens.specs.declared.part.Token.TheVariants.{Number as ANumber, Word as AWord, Key as AKey}
use Rattle.tokens.specs.Extents.{digit}

-- one byte more of a text: a digit goes to the end of the number, any other byte changes nothing.
-- A field has four digits at the most, so no field's number reaches the cap.
abbrev pub written : ℕ → ℕ → ℕ
written v b = cond (digit b) (min 10000 (10 * v + (b - 48))) v

-- the number that the digits of a text write behind the number v
abbrev pub magnitude_from : ℕ → List ℕ → ℕ
magnitude_from v [] = v
magnitude_from v (b ∷ s) = magnitude_from (written v b) s

-- the number that the digits of a text write
abbrev pub magnitude : List ℕ → ℕ
magnitude s = magnitude_from 0 s

-- whether a text begins with a byte
abbrev pub begins_with : ℕ → List ℕ → Bool
begins_with c [] = false
begins_with c (b ∷ s) = b == c

-- the three cases of a token
pub data Sort : Type 0 where
  number word key : Sort

-- the case that a token is of
abbrev pub sort : Token → Sort
sort (ANumber p) = number
sort (AWord p) = word
sort (AKey p) = key

-- the case that a field of a kind is of
abbrev pub sort_of : FieldKind → Sort
sort_of Number = number
sort_of Signed = number
sort_of Mode = word
sort_of Variable = word
sort_of Map = word
