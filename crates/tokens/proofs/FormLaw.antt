-- A line of a form stops at the first byte that cannot go on, by counted bytes. Assumes nothing.
use Rattle.std.proofs.Common.{◌≡◌, ℕ, suc, ◌<◌, List, [], ◌∷◌, ◌++◌, length, take, drop, sym, refl, ap, ◌∙◌, subst, arith, length-append, take_at}
use lib.Seq.{append_snoc, take-append_seam, drop-append_seam}
use Rattle.tokens.specs.Texts.{Text, Piece, Read, got, refused, Form, fields_of}
use Rattle.tokens.specs.FormLaws.{onwards, next_line, Unbroken, IsLine, StopsAt, Explained, FormLaw}
use Rattle.tokens.proofs.LineLaws.{GotLine, StoppedLine, LineCut}
use Rattle.tokens.proofs.Forms.{line_law}

-- where a text goes on behind its front, by its next byte
next_byte : (u v s : List ℕ) → s ≡ u ++ v → length u < length s → (x : ℕ) × (w : List ℕ) × (v ≡ x ∷ w) × (take (suc (length u)) s ≡ u ++ x ∷ [])
next_byte u [] s e h = absurd (omega (arith, ap length e, length-append u []))
next_byte u (x ∷ w) s e h =
    let n : length (u ++ x ∷ []) ≡ suc (length u) = omega (arith, length-append u (x ∷ [])) in
    (x, w, refl, ap (take (suc (length u))) (e ∙ sym (append_snoc u x w)) ∙ take_at (u ++ x ∷ []) w (suc (length u)) n)

-- the law by counted bytes
module _ (form : Form) (t : Text) where
  line_counted : (fields : List Piece) (u : Text) → GotLine (fields_of form) t fields u → Explained form t (got fields u)
  line_counted fields u h =
      let q : List ℕ = h.front ++ 10 ∷ [] in
      let cut : t.rest ≡ q ++ h.back = h.cut ∙ sym (append_snoc h.front 10 h.back) in
      let front : take (length q) t.rest ≡ q = ap (take (length q)) cut ∙ take-append_seam q h.back in
      let back : drop (length q) t.rest ≡ h.back = ap (drop (length q)) cut ∙ drop-append_seam q h.back in
      let line : IsLine form t fields (length q) =
      record {
        within = omega (arith, ap length cut, length-append q h.back);
        ended = (h.front, front, h.unbroken);
        whatever = λ c. ap (λ s. fields_of form (onwards t s)) (ap {B = List ℕ} (λ s. s ++ c) front ∙ append_snoc h.front 10 c) ∙ h.whatever c;
      } in
      (length q, line, h.behind ∙ ap (next_line t) (sym back))

  stop_counted : (number line byte : ℕ) → StoppedLine (fields_of form) t number line byte → Explained form t (refused number line byte)
  stop_counted number line byte h =
      let k : ℕ = length h.front in
      let front : take k t.rest ≡ h.front = ap (take k) h.cut ∙ take-append_seam h.front h.back in
      let stops : StopsAt form t k =
      record {
        within = omega (arith, ap length h.cut, length-append h.front h.back);
        on_one_line = subst Unbroken (sym front) h.unbroken;
        goes_on = (h.more, h.value, ap (λ s. fields_of form (onwards t (s ++ h.more))) front ∙ h.goes_on);
        cannot = λ within c.
            let (x, w, is, one_more) = next_byte h.front h.back t.rest h.cut within in
            ap (λ s. fields_of form (onwards t s)) (ap {B = List ℕ} (λ s. s ++ c) one_more ∙ append_snoc h.front x c) ∙ h.cannot x w is c;
      } in
      (k, h.numbered, h.same_line, h.place, stops)

pub form_law : FormLaw
form_law form u t = go (fields_of form t) (line_law form u t)
  where
    go : (o : Read (List Piece)) → LineCut (fields_of form) t o → Explained form t o
    go (got fields l) h = line_counted form t fields l h
    go (refused number line byte) h = stop_counted form t number line byte h
