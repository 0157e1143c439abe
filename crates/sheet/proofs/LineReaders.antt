-- A line, read by its form and then by what its fields say, has the law of readers of lines. Assumes nothing.
use Rattle.std.proofs.Common.{◌≡◌, ℕ, zero, suc, ◌+◌, ◌-◌, ◌≤◌, List, [], ◌∷◌, ◌++◌, length, sym, refl, ap, ◌∙◌, subst, append_assoc, arith, length-append}
use lib.Seq.{append_snoc}
use Rattle.std.proofs.ByRecursion.{All-weaker}
use Rattle.tokens.specs.Texts.{Text, Piece, Read, got, refused, then, Form, fields_of}
use Rattle.tokens.specs.FormLaws.{Unbroken}
use Rattle.tokens.proofs.LineLaws.{GotLine, StoppedLine, LineCut}
use Rattle.tokens.proofs.Forms.{line_law}
use Rattle.sheet.specs.Verdicts.{Verdict, fine, wrong}
use Rattle.sheet.specs.Lines.{judged, line_by}
use Rattle.sheet.proofs.Readers.{begins, NotBefore, Clear, Behind, StoppedLines, LinesCut, LinesLaw}
use Rattle.sheet.proofs.Pieces.{line_sits}
use Rattle.sheet.proofs.RuleLaws.{Faulted, RuleLaw}

-- bytes without a newline, cut behind the first n
record Split (n : ℕ) (s : List ℕ) : Type 0 where
  front : List ℕ
  back : List ℕ
  cut : s ≡ front ++ back
  counted : n ≡ length front
  unbroken : Unbroken front
  rest_unbroken : Unbroken back

split : (n : ℕ) (s : List ℕ) → n ≤ length s → Unbroken s → Split n s
split zero s h u = record { front = []; back = s; cut = refl; counted = refl; unbroken = tt; rest_unbroken = u }
split (suc n) [] h u = absurd (omega arith)
split (suc n) (b ∷ s) h u =
    let k = split n s (omega arith) u.1 in
    record { front = b ∷ k.front; back = k.back; cut = ap {B = List ℕ} (λ l. b ∷ l) k.cut; counted = ap suc k.counted; unbroken = (u.0, k.unbroken); rest_unbroken = k.rest_unbroken }

-- a place of the line with these bytes
abbrev OnLine : ℕ → List ℕ → ℕ → ℕ → Type 0
OnLine line bytes l b = (l ≡ line) × (1 ≤ b) × (b ≤ suc (length bytes))

next_line_lem : (line : ℕ) (u : Text) (s : List ℕ) → u ≡ begins (line + 1) s → Behind line u
next_line_lem line u s e = (line + 1, s, e, omega arith)

module _ {V : Type 0} (line : ℕ) (At : ℕ → ℕ → Type 0) where
  judged_starts : ((l b : ℕ) → At l b → l ≡ line) → (x : Verdict V) (u : Text) → Behind line u → Faulted At x → NotBefore line (judged x u)
  judged_starts at (fine v) u h k = (h.0, h.1, h.2, omega (arith, h.3))
  judged_starts at (wrong n l b) u h k = omega (arith, at l b k.2)

  judged_clear : (x : Verdict V) (u : Text) → Behind line u → Faulted At x → Clear Behind line (judged x u)
  judged_clear (fine v) u h k = h
  judged_clear (wrong n l b) u h k = λ e. absurd (omega (arith, k.0))

module _ {V : Type 0} (form : Form) (key : Unbroken form.key) (rule : List Piece → Verdict V) (law : RuleLaw (length form.kinds) rule) where
  abbrev by : Read (List Piece) → Read V
  by o = then o (λ fields u. judged (rule fields) u)

  -- a refusal of the fields of a line that has its form is at a place of the line
  fields_faulted : (line : ℕ) (s : List ℕ) (fields : List Piece) (u : Text) (h : GotLine (fields_of form) (begins line s) fields u) → fields_of form (begins line s) ≡ got fields u → Faulted (OnLine line h.front) (rule fields)
  fields_faulted line s fields u h e =
      let (count, sit) = line_sits form (begins line s) fields u e in
      let left : length u.rest ≡ length h.back = ap (λ x. length x.rest) h.behind in
      let all : length s ≡ length h.front + suc (length h.back) = ap length h.cut ∙ length-append h.front (10 ∷ h.back) in
      law (OnLine line h.front) fields (count, All-weaker _ _ (λ p k. (k.0, k.1, omega (arith, k.2))) fields sit)

  line_starts : (line : ℕ) (s : List ℕ) → NotBefore line (line_by form rule (begins line s))
  line_starts line s = go (fields_of form (begins line s)) refl (line_law form key (begins line s))
    where
      go : (o : Read (List Piece)) → fields_of form (begins line s) ≡ o → LineCut (fields_of form) (begins line s) o → NotBefore line (by o)
      go (got fields u) e h = judged_starts line (OnLine line h.front) (λ l b at. at.0) (rule fields) u (next_line_lem line u h.back h.behind) (fields_faulted line s fields u h e)
      go (refused n l b) e h = omega (arith, h.same_line)

  -- the line has not its form
  module _ (line : ℕ) (s : List ℕ) (n l b : ℕ) (h : StoppedLine (fields_of form) (begins line s) n l b) where
    goes_on_clear : Clear Behind l (line_by form rule (begins line (h.front ++ h.more)))
    goes_on_clear =
        let (count, sit) = line_sits form (begins line (h.front ++ h.more)) h.value (begins (line + 1) []) h.goes_on in
        let faulted : Faulted (λ _ _. Unit {0}) (rule h.value) = law (λ _ _. Unit {0}) h.value (count, All-weaker _ _ (λ p k. tt) h.value sit) in
        subst (λ o. Clear Behind l (by o)) (sym h.goes_on) (subst (λ k. Clear Behind k (judged (rule h.value) (begins (line + 1) []))) (sym h.same_line)
        (judged_clear line (λ _ _. Unit {0}) (rule h.value) (begins (line + 1) []) (next_line_lem line _ [] refl) faulted))

    stopped : StoppedLines Behind (line_by form rule) line s n l b
    stopped =
        let there : ◌≡◌ {A = Read V} (refused 1 line (1 + length h.front)) (refused 1 l b) = λ i. refused 1 (sym h.same_line i) (sym h.place i) in
        record {
          count = 0;
          before = [];
          front = h.front;
          back = h.back;
          cut = h.cut;
          lines = refl;
          same_line = omega (arith, h.same_line);
          unbroken = h.unbroken;
          place = omega (arith, h.place);
          numbered = (omega (arith, h.numbered), omega (arith, h.numbered));
          faultless = λ c. subst (λ k. NotBefore k (line_by form rule (begins line c))) (sym h.same_line) (line_starts line c);
          goes_on = λ _. (h.more, goes_on_clear);
          cannot = λ _ x w e c. ap by (h.cannot x w e c) ∙ there;
          decided = λ k. absurd (omega (arith, h.numbered));
        }

  -- the line has its form
  module _ (line : ℕ) (s : List ℕ) (fields : List Piece) (u : Text) (h : GotLine (fields_of form) (begins line s) fields u) where
    reread : (x : Verdict V) → rule fields ≡ x → (c : List ℕ) → line_by form rule (begins line (h.front ++ 10 ∷ c)) ≡ judged x (begins (line + 1) c)
    reread x is c = ap by (h.whatever c) ∙ ap (λ y. judged y (begins (line + 1) c)) is

    wrong_place : (n l b : ℕ) → rule fields ≡ wrong n l b → (2 ≤ n) × (n ≤ 6) × OnLine line h.front l b → Split (b - 1) h.front → StoppedLines Behind (line_by form rule) line s n l b
    wrong_place n l b is at k =
        let whole : (c : List ℕ) → k.front ++ (k.back ++ 10 ∷ c) ≡ h.front ++ 10 ∷ c = λ c. sym (append_assoc k.front k.back (10 ∷ c)) ∙ ap {B = List ℕ} (λ x. x ++ 10 ∷ c) (sym k.cut) in
        record {
          count = 0;
          before = [];
          front = k.front;
          back = k.back ++ 10 ∷ h.back;
          cut = h.cut ∙ sym (whole h.back);
          lines = refl;
          same_line = omega (arith, at.2.0);
          unbroken = k.unbroken;
          place = omega (arith, at.2, k.counted);
          numbered = (omega (arith, at.0), at.1);
          faultless = λ c. subst (λ m. NotBefore m (line_by form rule (begins line c))) (sym at.2.0) (line_starts line c);
          goes_on = λ e. absurd (omega (arith, at.0));
          cannot = λ e. absurd (omega (arith, at.0));
          decided = λ _. (k.back, h.back, refl, k.rest_unbroken, λ c. ap (λ x. line_by form rule (begins line x)) (whole c) ∙ reread (wrong n l b) is c);
        }

    ruled : (x : Verdict V) → rule fields ≡ x → Faulted (OnLine line h.front) x → LinesCut (line_by form rule) line s (judged x u)
    ruled (fine v) is at =
        record {
          count = 1;
          front = h.front ++ 10 ∷ [];
          back = h.back;
          cut = h.cut ∙ sym (append_snoc h.front 10 h.back);
          lines = (h.front, [], refl, h.unbroken, refl);
          behind = h.behind;
          whatever = λ c. ap (λ x. line_by form rule (begins line x)) (append_snoc h.front 10 c) ∙ reread (fine v) is c;
        }
    ruled (wrong n l b) is at = wrong_place n l b is at (split (b - 1) h.front (omega (arith, at.2)) h.unbroken)

  pub line_by_law : LinesLaw (line_by form rule)
  line_by_law line s = go (fields_of form (begins line s)) refl (line_law form key (begins line s))
    where
      go : (o : Read (List Piece)) → fields_of form (begins line s) ≡ o → LineCut (fields_of form) (begins line s) o → LinesCut (line_by form rule) line s (by o)
      go (got fields u) e h = ruled line s fields u h (rule fields) refl (fields_faulted line s fields u h e)
      go (refused n l b) e h = stopped line s n l b h
