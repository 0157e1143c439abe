-- An extent counts no more bytes than the text has. Assumes nothing.
use Rattle.std.proofs.Common.{◌≡◌, refl, ℕ, zero, suc, ◌+◌, ◌≤◌, List, [], ◌∷◌, length, drop, arith, length-drop, Ok, Err}
use Rattle.std.proofs.lemmas.Grind.{common_steps}
use Rattle.tokens.specs.declared.extent.FieldKind.{FieldKind}
use Rattle.tokens.specs.declared.extent.FieldKind.TheVariants.{Number, Signed, Mode, Variable, Map}
use Rattle.tokens.specs.Extents.{Extent, digits, shared, size, after, literal, one_of, number, positive, signed, width, one_word, block_word, cyclic_word, all_word, seq_word, cyclic_map_word, map_word, extent_of}

abbrev Fits : List ℕ → Extent → Type 0
Fits s e = size e ≤ length s

pub digits_within : (most : ℕ) (s : List ℕ) → digits most s ≤ length s
digits_within zero s = omega arith
digits_within (suc most) [] = omega arith
digits_within (suc most) (b ∷ s) = grind (arith, common_steps, digits_within most s)

pub shared_within : (w s : List ℕ) → shared w s ≤ length s
shared_within [] s = omega arith
shared_within (a ∷ w) [] = omega arith
shared_within (a ∷ w) (b ∷ s) = grind (arith, common_steps, shared_within w s)

pub literal_within : (w s : List ℕ) → Fits s (literal w s)
literal_within w s = grind (arith, common_steps, shared_within w s)

one_of_within : (w v s : List ℕ) → Fits s (one_of w v s)
one_of_within w v s = grind (arith, common_steps, literal_within w s, literal_within v s)

size_after : (n : ℕ) (e : Extent) → size (after n e) ≡ n + size e
size_after n (Ok k) = refl
size_after n (Err e) = refl

number_within : (s : List ℕ) → Fits s (number s)
number_within [] = omega arith
number_within (b ∷ s) = grind (arith, common_steps, digits_within 4 (b ∷ s))

positive_within : (s : List ℕ) → Fits s (positive s)
positive_within [] = omega arith
positive_within (b ∷ s) = grind (arith, common_steps, number_within (b ∷ s))

signed_within : (s : List ℕ) → Fits s (signed s)
signed_within [] = omega arith
signed_within (b ∷ s) = grind (arith, common_steps, size_after 1 (positive s), positive_within s, number_within (b ∷ s))

width_within : (s : List ℕ) → Fits s (width s)
width_within [] = omega arith
width_within (b ∷ s) = grind (arith, common_steps, size_after 1 (number s), number_within s)

cyclic_within : (s : List ℕ) → Fits s (cyclic_map_word s)
cyclic_within s = grind (arith, common_steps, shared_within cyclic_word s, size_after 6 (width (drop 6 s)), width_within (drop 6 s), length-drop 6 s)

map_within : (s : List ℕ) → Fits s (map_word s)
map_within s = grind (arith, common_steps, literal_within one_word s, literal_within block_word s, cyclic_within s)

pub extent_within : (k : FieldKind) (s : List ℕ) → Fits s (extent_of k s)
extent_within Number s = number_within s
extent_within Signed s = signed_within s
extent_within Mode s = one_of_within all_word seq_word s
extent_within Variable s = one_of_within (105 ∷ []) (106 ∷ []) s
extent_within Map s = map_within s
