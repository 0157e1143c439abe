-- One board of a network changes what it has, and one memory changes at an element of that board: they stay tied. Assumes nothing.
use Rattle.std.proofs.Common.{◌≡◌, ℕ, Bool, true, false, cond, ◌&&◌, eqb, ◌≢◌, ◌⊎◌, List, sym, refl, ap, ◌∙◌, inl, inr}
use mathlib.Core.Path.{fun_ext}
use Rattle.std.proofs.lemmas.Bool.{cases_eq, eq-eqb, cond-true}
use Rattle.sections.specs.Order.{Element}
use Rattle.network.specs.Request.{replaced, changed}
use Rattle.network.proofs.Moves.{replaced_other}
use Rattle.schedule.specs.Boards.{Own, same_element, written}
use Rattle.schedule.proofs.WrittenValues.{written_elsewhere}

pub replaced_here : {X : Type 0} (p : ℕ) (a : X) (f : ℕ → X) → replaced p a f p ≡ a
unfolding replaced
replaced_here p a f = cond-true (eqb p p) a (f p) (eq-eqb p p refl)

-- a step alone leaves the rows
pub rows_left : {L : Type 0} (p q : ℕ) (row : ℕ → ℕ → List L) → changed p q (λ r. r) row ≡ row
unfolding changed
rows_left {L} p q row = fun_ext (λ i. fun_ext (λ j. pick (eqb i p && eqb j q) (row i j)))
  where
    pick : (b : Bool) (r : List L) → cond b r r ≡ r
    pick true r = refl
    pick false r = refl

-- writes of one value keep what was equal equal
pub written_like : {V : Type 0} (e : Element) (v w : V) (f g : Element → V) (x : Element) → v ≡ w → f x ≡ g x → written e v f x ≡ written e w g x
unfolding written
written_like e v w f g x a b = λ i. cond (same_element x e) (a i) (b i)

-- the values of owners, where board p has something new
module _ {V : Type 0} (Here : Element → Type 0) (owner : Element → ℕ) (own : ℕ → Own V) (p : ℕ) (new : Own V) (f : Own V → Element → V) (g : Element → V)
    (tied : (e : Element) → Here e → f (own (owner e)) e ≡ g e)
  where
    pub keeps : f new ≡ f (own p) → (e : Element) → Here e → f (replaced p new own (owner e)) e ≡ g e
    keeps same e there = pick (cases_eq (owner e) p)
      where
        pick : (owner e ≡ p) ⊎ (owner e ≢ p) → f (replaced p new own (owner e)) e ≡ g e
        pick (inl h) =
            ap (λ q. f (replaced p new own q) e) h ∙ ap (λ o. f o e) (replaced_here p new own) ∙ ap (λ v. v e) same ∙ ap (λ q. f (own q) e) (sym h)
            ∙ tied e there
        pick (inr ne) = ap (λ o. f o e) (replaced_other p (owner e) new own ne) ∙ tied e there

    pub writes : (at : Element) (v w : V) → Here at → owner at ≡ p → f new ≡ written at v (f (own p)) → v ≡ w
        → (e : Element) → Here e → f (replaced p new own (owner e)) e ≡ written at w g e
    writes at v w home mine same value e there = pick (cases_eq (owner e) p)
      where
        pick : (owner e ≡ p) ⊎ (owner e ≢ p) → f (replaced p new own (owner e)) e ≡ written at w g e
        pick (inl h) =
            ap (λ q. f (replaced p new own q) e) h ∙ ap (λ o. f o e) (replaced_here p new own) ∙ ap (λ x. x e) same
            ∙ written_like at v w (f (own p)) g e value (ap (λ q. f (own q) e) (sym h) ∙ tied e there)
        pick (inr ne) =
            ap (λ o. f o e) (replaced_other p (owner e) new own ne) ∙ tied e there ∙ sym (written_elsewhere at w g e (λ x. ne (ap owner x ∙ mine)))

    -- what the owner has at its own element
    pub has : (e : Element) → Here e → owner e ≡ p → f (own p) e ≡ g e
    has e there mine = ap (λ q. f (own q) e) (sym mine) ∙ tied e there
