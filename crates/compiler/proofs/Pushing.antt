-- Lists that grow by one at the end. Assumes nothing.
use Rattle.std.proofs.Common.{◌≡◌, List, [], ◌∷◌, ◌++◌, map, sym, ap, ◌∙◌, subst}
use Rattle.std.specs.List.{AllByRecursion}
use Rattle.std.proofs.ByRecursion.{All-push}
use Rattle.std.proofs.lemmas.List.{map_push}

module _ {X : Type 0} (vs more : List X) (x : X) (pushed : more ≡ vs ++ x ∷ []) where
  -- what a function gives for a list with one more
  pub map_pushed : {Y : Type 0} (f : X → Y) (us : List Y) (y : Y) → map f vs ≡ us → f x ≡ y → map f more ≡ us ++ y ∷ []
  map_pushed f us y e is = ap (map f) pushed ∙ map_push f vs x ∙ (λ t. e t ++ is t ∷ [])

  pub all_pushed : (P : X → Type 0) → AllByRecursion P vs → P x → AllByRecursion P more
  all_pushed P h k = subst (AllByRecursion P) (sym pushed) (All-push P vs x h k)
