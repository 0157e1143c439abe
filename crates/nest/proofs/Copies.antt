-- What a copy says. Assumes nothing.
use Rattle.std.proofs.Common.{◌≡◌, true, List, [], ◌∷◌, map, refl, Vec, vec_items, Global}
use Rattle.std.specs.List.{AllZip}
use Rattle.nest.specs.declared.nest.Nest.{Nest}
use Rattle.nest.specs.declared.terms.Array.{Array}
use Rattle.nest.specs.declared.terms.Statement.{Statement}
use Rattle.nest.specs.Nests.{shown}
use Rattle.nest.specs.Sound.{nest_kept}
use Rattle.nest.specs.Terms.{Sheet}
use Rattle.nest.specs.Views.{said, said_all}

-- items of one image, place by place
pub same_images : {X Y : Type 0} (v : X → Y) (R : X → X → Type 0) → ((x y : X) → R x y → v y ≡ v x) → (xs ys : List X) → AllZip R xs ys → map v ys ≡ map v xs
same_images v R f [] [] h = refl
same_images v R f [] (y ∷ ys) h = absurd h
same_images v R f (x ∷ xs) [] h = absurd h
same_images v R f (x ∷ xs) (y ∷ ys) h = rw (f x y h.0) (rw (same_images v R f xs ys h.1) refl)

-- equal items, place by place
pub same_items : {X : Type 0} (R : X → X → Type 0) → ((x y : X) → R x y → y ≡ x) → (xs ys : List X) → AllZip R xs ys → ys ≡ xs
same_items R f [] [] h = refl
same_items R f [] (y ∷ ys) h = absurd h
same_items R f (x ∷ xs) [] h = absurd h
same_items R f (x ∷ xs) (y ∷ ys) h = rw (f x y h.0) (rw (same_items R f xs ys h.1) refl)

-- a statement with equal parts
pub said_same : (x y : Statement) → y.mode ≡ x.mode → y.i ≡ x.i → y.j ≡ x.j → y.put ≡ x.put → y.base ≡ x.base → vec_items y.reads ≡ vec_items x.reads → said y ≡ said x
said_same x y m i j p b r = rw m (rw i (rw j (rw p (rw b (rw r refl)))))

-- the parts of a nest, copied, keep what the nest keeps
pub kept_copy : (n : Nest) (arrays : Vec Array Global) (statements : Vec Statement Global)
    → vec_items arrays ≡ vec_items n.arrays → said_all statements ≡ said_all n.statements → nest_kept n.grid (vec_items arrays) n.sweeps (said_all statements) ≡ true
kept_copy n arrays statements a s = rw a (rw s n.kept)

-- and say the same
pub shown_copy : (n : Nest) (arrays : Vec Array Global) (statements : Vec Statement Global)
    → vec_items arrays ≡ vec_items n.arrays → said_all statements ≡ said_all n.statements
    → Path Sheet (record { grid = n.grid; arrays = vec_items arrays; sweeps = n.sweeps; statements = said_all statements }) (shown n)
shown_copy n arrays statements a s = rw a (rw s refl)
