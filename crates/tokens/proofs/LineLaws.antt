-- Readers of a line that stop at the first byte that cannot go on. Assumes nothing.
use Rattle.std.proofs.Common.{◌≡◌, ℕ, ◌+◌, ◌⊎◌, List, [], ◌∷◌, ◌++◌, length, sym, refl, ap, ◌∙◌, subst, inl, inr, append_assoc, arith, length-append, Ok, Err}
use lib.Seq.{take-append_seam, drop-append_seam}
use Rattle.tokens.specs.Extents.{Extent, stuck}
use Rattle.tokens.specs.Texts.{Text, Piece, Read, got, refused, then, taken}
use Rattle.tokens.specs.FormLaws.{onwards, next_line, Unbroken}
use Rattle.tokens.proofs.Extending.{Alike, alike_same, alike_front, WholeAt, StuckAt, Cut, ExtentLaw}

pub unbroken_append : (u v : List ℕ) → Unbroken u → Unbroken v → Unbroken (u ++ v)
unbroken_append [] v h k = k
unbroken_append (b ∷ u) v h k = (h.0, unbroken_append u v h.1 k)

-- a refusal is no value
pub not_got : {V : Type 0} (number line byte : ℕ) (v : V) (u : Text) → refused number line byte ≡ got v u → ⊥
not_got number line byte v u e = cc

-- what gets a value in two steps gets one in the first
pub first_got : {V W : Type 0} (o : Read V) (f : V → Text → Read W) (w : W) (u : Text) → then o f ≡ got w u → (v : V) × (l : Text) × (o ≡ got v l)
first_got (got v l) f w u e = (v, l, refl)
first_got (refused number line byte) f w u e = absurd (not_got number line byte w u e)

-- three steps, however they are grouped
pub then_then : {U V W : Type 0} (o : Read U) (f : U → Text → Read V) (g : V → Text → Read W) → then (then o f) g ≡ then o (λ v t. then (f v t) g)
then_then (got v l) f g = refl
then_then (refused number line byte) f g = refl

-- the reader got a value from the bytes up to the first newline, and gets it whatever follows
pub record GotLine {V : Type 0} (r : Text → Read V) (t : Text) (value : V) (left : Text) : Type 0 where
  pub front : List ℕ
  pub back : List ℕ
  pub cut : t.rest ≡ front ++ 10 ∷ back
  pub unbroken : Unbroken front
  pub behind : left ≡ next_line t back
  pub whatever : (c : List ℕ) → r (onwards t (front ++ 10 ∷ c)) ≡ got value (next_line t c)

-- the reader refused at the place behind bytes that can be continued to a line, and cannot with the next byte
pub record StoppedLine {V : Type 0} (r : Text → Read V) (t : Text) (number line byte : ℕ) : Type 0 where
  pub front : List ℕ
  pub back : List ℕ
  pub cut : t.rest ≡ front ++ back
  pub unbroken : Unbroken front
  pub numbered : number ≡ 1
  pub same_line : line ≡ t.line
  pub place : byte ≡ t.byte + length front
  pub more : List ℕ
  pub value : V
  pub goes_on : r (onwards t (front ++ more)) ≡ got value (next_line t [])
  pub cannot : (x : ℕ) (w : List ℕ) → back ≡ x ∷ w → (c : List ℕ) → r (onwards t (front ++ x ∷ c)) ≡ refused 1 t.line (t.byte + length front)

abbrev pub LineCut : {V : Type 0} → (Text → Read V) → Text → Read V → Type 0
LineCut r t (got value left) = GotLine r t value left
LineCut r t (refused number line byte) = StoppedLine r t number line byte

-- the law of a reader of a line
abbrev pub LineLaw : {V : Type 0} → (Text → Read V) → Type 0
LineLaw r = (t : Text) → LineCut r t (r t)

-- a line that the reader gets a value from
pub record LineExample {V : Type 0} (r : Text → Read V) (t : Text) : Type 0 where
  pub bytes : List ℕ
  pub value : V
  pub reads : r (onwards t bytes) ≡ got value (next_line t [])

module _ {V : Type 0} (r : Text → Read V) (t : Text) where
  line_example_from : (o : Read V) → LineCut r t o → LineExample r t
  line_example_from (got v u) h = record { bytes = h.front ++ 10 ∷ []; value = v; reads = h.whatever [] }
  line_example_from (refused n l b) h = record { bytes = h.front ++ h.more; value = h.value; reads = h.goes_on }

  pub line_example : LineLaw r → LineExample r t
  line_example law = line_example_from (r t) (law t)

-- the bytes u at the place of a text
abbrev piece_at : Text → List ℕ → Piece
piece_at t u = record { text = u; line = t.line; byte = t.byte }

-- the place behind the bytes u, with these bytes from there on
abbrev beyond : Text → List ℕ → List ℕ → Text
beyond t u c = record { rest = c; line = t.line; byte = t.byte + length u }

-- an extent, and a reader of the rest of the line behind it, with the piece that the extent counts
abbrev pub behind_extent : {V : Type 0} → (List ℕ → Extent) → (Piece → Text → Read V) → Text → Read V
behind_extent f k t = then (taken (f t.rest) t) k

module _ {V : Type 0} (f : List ℕ → Extent) (k : Piece → Text → Read V) (t : Text) where
  whole_read : (u c : List ℕ) → f (u ++ c) ≡ Ok (length u) → behind_extent f k (onwards t (u ++ c)) ≡ k (piece_at t u) (beyond t u c)
  whole_read u c h =
      ap (λ e. then (taken e (onwards t (u ++ c))) k) h
      ∙ (λ i. k (piece_at t (take-append_seam u c i)) (beyond t u (drop-append_seam u c i)))

  stuck_read : (s : List ℕ) (n : ℕ) → f s ≡ stuck n → behind_extent f k (onwards t s) ≡ refused 1 t.line (t.byte + n)
  stuck_read s n h = ap (λ e. then (taken e (onwards t s)) k) h

-- Behind an extent with the law, readers with the law, whose lines may follow it: together they have the law.
module _ {V : Type 0} (Follows : List ℕ → Type 0) (f : List ℕ → Extent) (law : ExtentLaw Follows f) (k : Piece → Text → Read V)
    (laws : (p : Piece) → LineLaw (k p)) (follows : (p : Piece) (t : Text) (v : V) (u : Text) → k p t ≡ got v u → Follows t.rest) where
  -- the extent is whole: what the reader behind it says
  module _ (t : Text) (n : ℕ) (h : WholeAt Follows f t.rest n) where
    reread : (c : List ℕ) → Alike h.back c ⊎ Follows c → behind_extent f k (onwards t (h.front ++ c)) ≡ k (piece_at t h.front) (beyond t h.front c)
    reread c p = whole_read f k t h.front c (h.whatever c p)

    regroup : (u c : List ℕ) → behind_extent f k (onwards t (h.front ++ u ++ c)) ≡ behind_extent f k (onwards t (h.front ++ (u ++ c)))
    regroup u c = ap (λ s. behind_extent f k (onwards t s)) (append_assoc h.front u c)

    accepted : (u c : List ℕ) (v : V) (l : Text) → k (piece_at t h.front) (beyond t h.front (u ++ c)) ≡ got v l → behind_extent f k (onwards t (h.front ++ u ++ c)) ≡ got v l
    accepted u c v l e = regroup u c ∙ reread (u ++ c) (inr (follows _ _ v l e)) ∙ e

    whole_then : (o : Read V) → LineCut (k (piece_at t h.front)) (beyond t h.front h.back) o → LineCut (behind_extent f k) t o
    whole_then (got v l) g =
        record {
          front = h.front ++ g.front;
          back = g.back;
          cut = h.cut ∙ ap {B = List ℕ} (λ s. h.front ++ s) g.cut ∙ sym (append_assoc h.front g.front (10 ∷ g.back));
          unbroken = unbroken_append h.front g.front h.unbroken g.unbroken;
          behind = g.behind;
          whatever = λ c. accepted g.front (10 ∷ c) v _ (g.whatever c);
        }
    whole_then (refused number line byte) g =
        record {
          front = h.front ++ g.front;
          back = g.back;
          cut = h.cut ∙ ap {B = List ℕ} (λ s. h.front ++ s) g.cut ∙ sym (append_assoc h.front g.front g.back);
          unbroken = unbroken_append h.front g.front h.unbroken g.unbroken;
          numbered = g.numbered;
          same_line = g.same_line;
          place = omega (arith, g.place, length-append h.front g.front);
          more = g.more;
          value = g.value;
          goes_on = accepted g.front g.more g.value _ g.goes_on;
          cannot = λ x w e c.
              let alike : Alike h.back (g.front ++ x ∷ c) = subst (λ s. Alike s (g.front ++ x ∷ c)) (sym (g.cut ∙ ap {B = List ℕ} (λ s. g.front ++ s) e)) (alike_front g.front x w c) in
              regroup g.front (x ∷ c) ∙ reread (g.front ++ x ∷ c) (inl alike) ∙ g.cannot x w e c ∙ ap (refused 1 t.line) (omega (arith, length-append h.front g.front));
        }

    whole_line : LineCut (behind_extent f k) t (behind_extent f k t)
    whole_line =
        let at : behind_extent f k t ≡ k (piece_at t h.front) (beyond t h.front h.back) = ap (λ s. behind_extent f k (onwards t s)) h.cut ∙ reread h.back (inl (alike_same h.back)) in
        subst (LineCut (behind_extent f k) t) (sym at) (whole_then _ (laws (piece_at t h.front) (beyond t h.front h.back)))

  -- the extent is stuck: its bytes are made whole, and then continued to a line
  module _ (t : Text) (n : ℕ) (h : StuckAt Follows f t.rest n) where
    stuck_then : StoppedLine (behind_extent f k) t 1 t.line (t.byte + n)
    stuck_then =
        let p = piece_at t (h.front ++ h.more) in
        let x = line_example (k p) (beyond t (h.front ++ h.more) []) (laws p) in
        let whole = whole_read f k t (h.front ++ h.more) x.bytes (h.goes_on x.bytes (follows p _ x.value _ x.reads)) in
        record {
          front = h.front;
          back = h.back;
          cut = h.cut;
          unbroken = h.unbroken;
          numbered = refl;
          same_line = refl;
          place = ap (λ i. t.byte + i) h.counted;
          more = h.more ++ x.bytes;
          value = x.value;
          goes_on = ap (λ s. behind_extent f k (onwards t s)) (sym (append_assoc h.front h.more x.bytes)) ∙ whole ∙ x.reads;
          cannot = λ y w e c. stuck_read f k t (h.front ++ y ∷ c) (length h.front) (h.cannot y w e c);
        }

  pub behind_extent_lem : LineLaw (behind_extent f k)
  behind_extent_lem t = go (f t.rest) refl (law t.rest)
    where
      go : (e : Extent) → f t.rest ≡ e → Cut Follows f t.rest e → LineCut (behind_extent f k) t (behind_extent f k t)
      go (Ok n) is h = whole_line t n h
      go (Err e) is h = subst (LineCut (behind_extent f k) t) (sym (stuck_read f k t t.rest e.after is)) (stuck_then t e.after h)

-- another value made of the reader's own
module _ {V W : Type 0} (make : V → W) (r : Text → Read V) where
  abbrev pub made : Text → Read W
  made t = then (r t) (λ v u. got (make v) u)

  pub made_law : LineLaw r → LineLaw made
  made_law law t = go (r t) (law t)
    where
      go : (o : Read V) → LineCut r t o → LineCut made t (then o (λ v u. got (make v) u))
      go (got v l) h =
          record { front = h.front; back = h.back; cut = h.cut; unbroken = h.unbroken; behind = h.behind; whatever = λ c. ap (λ x. then x (λ v u. got (make v) u)) (h.whatever c) }
      go (refused number line byte) h =
          record {
            front = h.front;
            back = h.back;
            cut = h.cut;
            unbroken = h.unbroken;
            numbered = h.numbered;
            same_line = h.same_line;
            place = h.place;
            more = h.more;
            value = make h.value;
            goes_on = ap (λ x. then x (λ v u. got (make v) u)) h.goes_on;
            cannot = λ x w e c. ap (λ y. then y (λ v u. got (make v) u)) (h.cannot x w e c);
          }
