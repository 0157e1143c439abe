-- Which bytes at the front of a text make up a field of a line. Assumes nothing.
use Rattle.std.specs.Prelude.{ℕ, zero, suc, ◌+◌, Bool, cond, ◌&&◌, List, [], ◌∷◌, length, drop, ◌==◌, nat_le, nat_lt, Result, Ok, Err}
use Rattle.tokens.specs.declared.extent.FieldKind.{FieldKind}
use Rattle.tokens.specs.declared.extent.FieldKind.TheVariants.{Number, Signed, Mode, Variable, Map}
use Rattle.tokens.specs.declared.extent.Stuck.{Stuck}

-- the byte of a decimal digit
abbrev pub digit : ℕ → Bool
digit b = nat_le 48 b && nat_le b 57

-- how many digits a text begins with, so many at the most
abbrev pub digits : ℕ → List ℕ → ℕ
digits zero s = 0
digits (suc most) [] = 0
digits (suc most) (b ∷ s) = cond (digit b) (suc (digits most s)) 0

-- how many bytes of a word a text begins with
abbrev pub shared : List ℕ → List ℕ → ℕ
shared [] s = 0
shared (w ∷ word) [] = 0
shared (w ∷ word) (b ∷ s) = cond (w == b) (suc (shared word s)) 0

-- the bytes at the front of a text that make up a field, or those after which no such field can go on
abbrev pub Extent : Type 0
Extent = Result ℕ Stuck

-- stuck after n bytes
abbrev pub stuck : ℕ → Extent
stuck n = Err (record { after = n })

-- what follows n bytes that are fine
abbrev pub after : ℕ → Extent → Extent
after n (Ok k) = Ok (n + k)
after n (Err e) = stuck (n + e.after)

-- the bytes that an extent counts
abbrev pub size : Extent → ℕ
size (Ok k) = k
size (Err e) = e.after

-- the word itself
abbrev pub literal : List ℕ → List ℕ → Extent
literal word s = cond (shared word s == length word) (Ok (length word)) (stuck (shared word s))

-- one of two words that begin with other letters
abbrev pub one_of : List ℕ → List ℕ → List ℕ → Extent
one_of word other s = cond (nat_lt 0 (shared word s)) (literal word s) (literal other s)

-- so many bytes, of which there has to be one
abbrev pub some_of : ℕ → Extent
some_of n = cond (n == 0) (stuck 0) (Ok n)

-- a number: 0, or one to four digits that do not begin with 0
abbrev pub number : List ℕ → Extent
number [] = stuck 0
number (b ∷ s) = cond (b == 48) (Ok 1) (some_of (digits 4 (b ∷ s)))

-- a number other than 0
abbrev pub positive : List ℕ → Extent
positive [] = stuck 0
positive (b ∷ s) = cond (b == 48) (stuck 0) (number (b ∷ s))

-- a number, or a minus (45) and a number other than 0
abbrev pub signed : List ℕ → Extent
signed [] = stuck 0
signed (b ∷ s) = cond (b == 45) (after 1 (positive s)) (number (b ∷ s))

-- what may follow `cyclic`: nothing, or a colon (58) and a number
abbrev pub width : List ℕ → Extent
width [] = Ok 0
width (b ∷ s) = cond (b == 58) (after 1 (number s)) (Ok 0)

-- the words, by their bytes
abbrev pub all_word : List ℕ
all_word = 97 ∷ 108 ∷ 108 ∷ []

abbrev pub seq_word : List ℕ
seq_word = 115 ∷ 101 ∷ 113 ∷ []

abbrev pub one_word : List ℕ
one_word = 111 ∷ 110 ∷ 101 ∷ []

abbrev pub block_word : List ℕ
block_word = 98 ∷ 108 ∷ 111 ∷ 99 ∷ 107 ∷ []

abbrev pub cyclic_word : List ℕ
cyclic_word = 99 ∷ 121 ∷ 99 ∷ 108 ∷ 105 ∷ 99 ∷ []

-- `cyclic` or `cyclic:k`
abbrev pub cyclic_map_word : List ℕ → Extent
cyclic_map_word s = cond (nat_lt (shared cyclic_word s) 6) (stuck (shared cyclic_word s)) (after 6 (width (drop 6 s)))

-- the word of a map; the three begin with other letters
abbrev pub map_word : List ℕ → Extent
map_word s = cond (nat_lt 0 (shared one_word s)) (literal one_word s) (cond (nat_lt 0 (shared block_word s)) (literal block_word s) (cyclic_map_word s))

-- the extent of a field of each kind
abbrev pub extent_of : FieldKind → List ℕ → Extent
extent_of Number s = number s
extent_of Signed s = signed s
extent_of Mode s = one_of all_word seq_word s
extent_of Variable s = one_of (105 ∷ []) (106 ∷ []) s
extent_of Map s = map_word s
