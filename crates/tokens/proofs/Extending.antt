-- Extents that end or stick at the first byte that cannot go on, whatever follows it. Assumes nothing.
use Rattle.std.proofs.Common.{◌≡◌, ℕ, ◌⊎◌, List, [], ◌∷◌, ◌++◌, length, sym, refl, ap, ◌∙◌, subst, inl, inr, arith, Ok, Err}
use mathlib.Core.Path.{fun_ext}
use Rattle.tokens.specs.Extents.{Extent, stuck, after}
use Rattle.tokens.specs.FormLaws.{Unbroken}

-- the two begin with the same byte, or are both empty
abbrev pub Alike : List ℕ → List ℕ → Type 0
Alike [] [] = Unit {0}
Alike [] (y ∷ c) = ⊥
Alike (x ∷ v) [] = ⊥
Alike (x ∷ v) (y ∷ c) = x ≡ y

pub alike_same : (v : List ℕ) → Alike v v
alike_same [] = tt
alike_same (x ∷ v) = refl

pub alike_front : (u : List ℕ) (x : ℕ) (w c : List ℕ) → Alike (u ++ x ∷ w) (u ++ x ∷ c)
alike_front [] x w c = refl
alike_front (y ∷ u) x w c = refl

-- n bytes at the front of s are whole for f, and stay so before what begins alike or what may follow
pub record WholeAt (Follows : List ℕ → Type 0) (f : List ℕ → Extent) (s : List ℕ) (n : ℕ) : Type 0 where
  pub front : List ℕ
  pub back : List ℕ
  pub cut : s ≡ front ++ back
  pub counted : n ≡ length front
  pub unbroken : Unbroken front
  pub whatever : (c : List ℕ) → Alike back c ⊎ Follows c → f (front ++ c) ≡ Ok (length front)

-- n bytes at the front of s can be made whole for f by more bytes, and cannot with the next byte of s
pub record StuckAt (Follows : List ℕ → Type 0) (f : List ℕ → Extent) (s : List ℕ) (n : ℕ) : Type 0 where
  pub front : List ℕ
  pub back : List ℕ
  pub cut : s ≡ front ++ back
  pub counted : n ≡ length front
  pub unbroken : Unbroken front
  pub more : List ℕ
  pub goes_on : (c : List ℕ) → Follows c → f (front ++ more ++ c) ≡ Ok (length (front ++ more))
  pub cannot : (x : ℕ) (w : List ℕ) → back ≡ x ∷ w → (c : List ℕ) → f (front ++ x ∷ c) ≡ stuck (length front)

abbrev pub Cut : (List ℕ → Type 0) → (List ℕ → Extent) → List ℕ → Extent → Type 0
Cut Follows f s (Ok n) = WholeAt Follows f s n
Cut Follows f s (Err e) = StuckAt Follows f s e.after

-- the law of an extent; `Follows` says what may follow a whole field without changing it
abbrev pub ExtentLaw : (List ℕ → Type 0) → (List ℕ → Extent) → Type 0
ExtentLaw Follows f = (s : List ℕ) → Cut Follows f s (f s)

-- bytes that are whole for f before whatever may follow
pub record Example (Follows : List ℕ → Type 0) (f : List ℕ → Extent) : Type 0 where
  pub bytes : List ℕ
  pub whole : (c : List ℕ) → Follows c → f (bytes ++ c) ≡ Ok (length bytes)

-- behind the byte b, f goes on as another extent with the law
pub record Goes (Follows : List ℕ → Type 0) (f : List ℕ → Extent) (b : ℕ) : Type 0 where
  pub next : List ℕ → Extent
  pub law : ExtentLaw Follows next
  pub no_newline : b ≡ 10 → ⊥
  pub so : (s : List ℕ) → f (b ∷ s) ≡ after 1 (next s)

-- at each first byte f goes on, or is the same extent of no byte as before the end of the text
abbrev pub Steps : (List ℕ → Type 0) → (List ℕ → Extent) → Extent → Type 0
Steps Follows f base = (b : ℕ) → Goes Follows f b ⊎ ((s : List ℕ) → f (b ∷ s) ≡ base)

-- An extent that needs a byte: at the end of the text, and at each byte that it cannot go on with, it is stuck before it.
-- It can go on with the byte b.
pub record Begins (Follows : List ℕ → Type 0) (f : List ℕ → Extent) (b : ℕ) : Type 0 where
  pub none : f [] ≡ stuck 0
  pub steps : Steps Follows f (stuck 0)
  pub goes : Goes Follows f b

empty_cons : (x : ℕ) (w : List ℕ) → [] ≡ x ∷ w → ⊥
empty_cons x w e = cc

head_of : (x y : ℕ) (v w : List ℕ) → x ∷ v ≡ y ∷ w → x ≡ y
head_of x y v w e = cc

module _ {Follows : List ℕ → Type 0} where
  example_from : (f : List ℕ → Extent) (s : List ℕ) (e : Extent) → Cut Follows f s e → Example Follows f
  example_from f s (Ok n) h = record { bytes = h.front; whole = λ c p. h.whatever c (inr p) }
  example_from f s (Err e) h = record { bytes = h.front ++ h.more; whole = h.goes_on }

  pub example : (f : List ℕ → Extent) → ExtentLaw Follows f → Example Follows f
  example f law = example_from f [] (f []) (law [])

  module _ (f : List ℕ → Extent) (b : ℕ) (go : Goes Follows f b) where
    longer : (c : List ℕ) (e : Extent) → go.next c ≡ e → f (b ∷ c) ≡ after 1 e
    longer c e h = go.so c ∙ ap (after 1) h

    pushed : (s : List ℕ) (e : Extent) → Cut Follows go.next s e → Cut Follows f (b ∷ s) (after 1 e)
    pushed s (Ok n) h =
        record {
          front = b ∷ h.front;
          back = h.back;
          cut = ap {B = List ℕ} (λ l. b ∷ l) h.cut;
          counted = omega (arith, h.counted);
          unbroken = (go.no_newline, h.unbroken);
          whatever = λ c p. longer (h.front ++ c) _ (h.whatever c p) ∙ ap Ok (omega arith);
        }
    pushed s (Err e) h =
        record {
          front = b ∷ h.front;
          back = h.back;
          cut = ap {B = List ℕ} (λ l. b ∷ l) h.cut;
          counted = omega (arith, h.counted);
          unbroken = (go.no_newline, h.unbroken);
          more = h.more;
          goes_on = λ c p. longer (h.front ++ h.more ++ c) _ (h.goes_on c p) ∙ ap Ok (omega arith);
          cannot = λ x w e c. longer (h.front ++ x ∷ c) _ (h.cannot x w e c) ∙ ap stuck (omega arith);
        }

    on : (s : List ℕ) → Cut Follows f (b ∷ s) (f (b ∷ s))
    on s = subst (Cut Follows f (b ∷ s)) (sym (go.so s)) (pushed s (go.next s) (go.law s))

  module _ (f : List ℕ → Extent) (b : ℕ) (begins : Begins Follows f b) where
    stopped : (s : List ℕ) → ((x : ℕ) (w : List ℕ) → s ≡ x ∷ w → (c : List ℕ) → f (x ∷ c) ≡ stuck 0) → StuckAt Follows f s 0
    stopped s never =
        let go = begins.goes in
        let x = example go.next go.law in
        record {
          front = [];
          back = s;
          cut = refl;
          counted = refl;
          unbroken = tt;
          more = b ∷ x.bytes;
          goes_on = λ c p. longer f b go (x.bytes ++ c) _ (x.whole c p) ∙ ap Ok (omega arith);
          cannot = never;
        }

    stuck_before : (x : ℕ) (s : List ℕ) → ((c : List ℕ) → f (x ∷ c) ≡ stuck 0) → Cut Follows f (x ∷ s) (f (x ∷ s))
    stuck_before x s is = subst (Cut Follows f (x ∷ s)) (sym (is s)) (stopped (x ∷ s) (λ y w e c. ap (λ z. f (z ∷ c)) (sym (head_of x y s w e)) ∙ is c))

    pub needs_byte : ExtentLaw Follows f
    needs_byte [] = subst (Cut Follows f []) (sym begins.none) (stopped [] (λ x w e c. absurd (empty_cons x w e)))
    needs_byte (x ∷ s) = elim (begins.steps x) [ inl g ↦ on f x g s | inr is ↦ stuck_before x s is ]

  -- An extent that may end here: at the end of the text, and at each byte that it cannot go on with, it is whole without it.
  module _ (f : List ℕ → Extent) (none : f [] ≡ Ok 0) (steps : Steps Follows f (Ok 0)) (apart : (c : List ℕ) → Follows c → f c ≡ Ok 0) where
    ended : (s : List ℕ) → ((c : List ℕ) → Alike s c → f c ≡ Ok 0) → WholeAt Follows f s 0
    ended s same = record { front = []; back = s; cut = refl; counted = refl; unbroken = tt; whatever = λ c p. elim p [ inl a ↦ same c a | inr q ↦ apart c q ] }

    alike_none : (c : List ℕ) → Alike [] c → f c ≡ Ok 0
    alike_none [] a = none
    alike_none (y ∷ c) a = absurd a

    alike_before : (x : ℕ) (s : List ℕ) → ((c : List ℕ) → f (x ∷ c) ≡ Ok 0) → (c : List ℕ) → Alike (x ∷ s) c → f c ≡ Ok 0
    alike_before x s is [] a = absurd a
    alike_before x s is (y ∷ c) a = ap (λ z. f (z ∷ c)) (sym a) ∙ is c

    ended_before : (x : ℕ) (s : List ℕ) → ((c : List ℕ) → f (x ∷ c) ≡ Ok 0) → Cut Follows f (x ∷ s) (f (x ∷ s))
    ended_before x s is = subst (Cut Follows f (x ∷ s)) (sym (is s)) (ended (x ∷ s) (alike_before x s is))

    pub may_end : ExtentLaw Follows f
    may_end [] = subst (Cut Follows f []) (sym none) (ended [] alike_none)
    may_end (x ∷ s) = elim (steps x) [ inl g ↦ on f x g s | inr is ↦ ended_before x s is ]

-- the same extent by another definition
pub same_begins : {Follows : List ℕ → Type 0} {b : ℕ} (f g : List ℕ → Extent) → ((s : List ℕ) → f s ≡ g s) → Begins Follows g b → Begins Follows f b
same_begins {Follows} {b} f g e h = subst (λ x. Begins Follows x b) (sym (fun_ext e)) h
