-- Whether maps fit a nest, array by array.
use Rattle.std.proofs.Common.{◌≡◌, ℕ, zero, suc, ◌<◌, Bool, true, false, MatchBool, List, [], ◌∷◌, map, length, get_or, ◌∙◌, subst, arith}
use Rattle.std.specs.List.{AllWithin, HoldsAt, zip}
use Rattle.std.proofs.lemmas.List.{length-map}
use Rattle.nest.specs.declared.terms.Array.{Array}
use Rattle.nest.specs.declared.terms.Grid.{Grid}
use Rattle.layout.specs.Places.{array_at}
use Rattle.owner_map.specs.Meaning.{Deal, Sound}
use Rattle.sections.specs.Sections.{EachSound, Deals, DealsOut, Fits, dealt, undealt}

pub fits_like : (grid grid' : Grid) (arrays arrays' : List Array) (deals : Deals) → grid ≡ grid' → arrays ≡ arrays' → Fits grid arrays deals → Fits grid' arrays' deals
fits_like grid grid' arrays arrays' deals g a fit = subst (λ h. Fits h arrays' deals) g (subst (λ b. Fits grid b deals) a fit)

-- the same answer, with the grid and the arrays in other words
pub answer_like : (grid grid' : Grid) (arrays arrays' : List Array) (deals : Deals) (r : Bool) → grid ≡ grid' → arrays ≡ arrays' → MatchBool r (Fits grid arrays deals) (Fits grid arrays deals → ⊥) → MatchBool r (Fits grid' arrays' deals) (Fits grid' arrays' deals → ⊥)
answer_like grid grid' arrays arrays' deals r g a m =
    subst (λ h. MatchBool r (Fits h arrays' deals) (Fits h arrays' deals → ⊥)) g (subst (λ b. MatchBool r (Fits grid b deals) (Fits grid b deals → ⊥)) a m)

-- as many maps as arrays, asked one by one beside them
module _ {X : Type 0} (f : X → Deal) (boards : ℕ) (size : Array → ℕ) where
  abbrev pub AllOut : List Array → List X → Type 0
  AllOut arrays xs = AllWithin (λ (p : Array × X). DealsOut (f p.1) boards (size p.0)) (zip arrays xs) 0 (length (zip arrays xs))

  abbrev pub SomeNot : List Array → List X → Type 0
  SomeNot arrays xs = (k : ℕ) × (k < length (zip arrays xs)) × HoldsAt (λ (p : Array × X). DealsOut (f p.1) boards (size p.0) → ⊥) (zip arrays xs) k

  abbrev pub EachOut : List Array → List X → Type 0
  EachOut arrays xs = (t : ℕ) → t < length arrays → DealsOut (get_or (map f xs) t undealt) boards (size (array_at arrays t))

  each_out : (arrays : List Array) (xs : List X) → length xs ≡ length arrays → AllOut arrays xs → EachOut arrays xs
  each_out [] xs even all t on = absurd (omega arith)
  each_out (a ∷ arrays) [] even all t on = absurd (omega arith)
  each_out (a ∷ arrays) (x ∷ xs) even all zero on = all 0 (a, x) (omega arith) (omega arith)
  each_out (a ∷ arrays) (x ∷ xs) even all (suc t) on =
      each_out arrays xs (omega arith) (λ k d low high. all (suc k) d (omega arith) (omega arith)) t (omega arith)

  none_out : (arrays : List Array) (xs : List X) → length xs ≡ length arrays → (k : ℕ) → k < length (zip arrays xs) → HoldsAt (λ (p : Array × X). DealsOut (f p.1) boards (size p.0) → ⊥) (zip arrays xs) k → EachOut arrays xs → ⊥
  none_out [] xs even k on off each = omega arith
  none_out (a ∷ arrays) [] even k on off each = omega arith
  none_out (a ∷ arrays) (x ∷ xs) even zero on off each = off (a, x) (each 0 (omega arith))
  none_out (a ∷ arrays) (x ∷ xs) even (suc k) on off each =
      none_out arrays xs (omega arith) k (omega arith) (λ d. off d) (λ t l. each (suc t) (omega arith))

module _ {X Y : Type 0} (f : X → Deal) (h : Y → Deal) (grid : Grid) (arrays : List Array) (xs : List X) (ys : List Y) where
  pub unfit_rows : length xs ≡ length arrays → SomeNot f grid.rows (λ a. a.rows) arrays xs → Fits grid arrays (dealt (map f xs) (map h ys)) → ⊥
  unfit_rows lx off fit = none_out f grid.rows (λ a. a.rows) arrays xs lx off.0 off.1 off.2 (λ t on. (fit.2 t on).0)

  pub fit_columns : length xs ≡ length arrays → length ys ≡ length arrays → AllOut f grid.rows (λ a. a.rows) arrays xs
      → (r : Bool) → MatchBool r (AllOut h grid.columns (λ a. a.columns) arrays ys) (SomeNot h grid.columns (λ a. a.columns) arrays ys)
      → MatchBool r (Fits grid arrays (dealt (map f xs) (map h ys))) (Fits grid arrays (dealt (map f xs) (map h ys)) → ⊥)
  fit_columns lx ly rows true columns = (length-map xs f ∙ lx, length-map ys h ∙ ly, λ t on. (each_out f grid.rows (λ a. a.rows) arrays xs lx rows t on, each_out h grid.columns (λ a. a.columns) arrays ys ly columns t on))
  fit_columns lx ly rows false columns = λ fit. none_out h grid.columns (λ a. a.columns) arrays ys ly columns.0 columns.1 columns.2 (λ t on. (fit.2 t on).1)

-- what maps mean is sound
sound_at : {X : Type 0} (f : X → Deal) → ((x : X) → Sound (f x)) → (xs : List X) (t : ℕ) → t < length (map f xs) → Sound (get_or (map f xs) t undealt)
sound_at f all [] t l = absurd (omega arith)
sound_at f all (x ∷ xs) zero l = all x
sound_at f all (x ∷ xs) (suc t) l = sound_at f all xs t (omega arith)

pub maps_sound : {X Y : Type 0} (f : X → Deal) (h : Y → Deal) → ((x : X) → Sound (f x)) → ((y : Y) → Sound (h y)) → (xs : List X) (ys : List Y) → EachSound (dealt (map f xs) (map h ys))
maps_sound f h fs hs xs ys = (sound_at f fs xs, sound_at h hs ys)
