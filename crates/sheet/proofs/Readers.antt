-- Readers of whole lines: what they got or refused is decided by the lines that they read, and a refusal names the first fault. Assumes nothing.
use Rattle.std.proofs.Common.{◌≡◌, ℕ, zero, suc, ◌+◌, ◌<◌, ◌≤◌, List, [], ◌∷◌, ◌++◌, length, sym, refl, ap, ◌∙◌, subst, append_assoc, arith}
use Rattle.tokens.specs.Texts.{Text, Read, got, refused, then, nothing_left}
use Rattle.tokens.specs.FormLaws.{Unbroken}
use Rattle.sheet.specs.Lines.{times}
use Rattle.sheet.specs.SheetLaws.{WholeLines}

-- the beginning of a line
abbrev pub begins : ℕ → List ℕ → Text
begins line s = record { rest = s; line = line; byte = 1 }

-- at the beginning of a line, this one or a later one
abbrev pub From : ℕ → Text → Type 0
From line u = (k : ℕ) × (s : List ℕ) × (u ≡ begins k s) × (line ≤ k)

-- nothing before the line is at fault
abbrev pub NotBefore : {V : Type 0} → ℕ → Read V → Type 0
NotBefore line (got v u) = From line u
NotBefore line (refused number l b) = line ≤ l

-- nothing up to and with the line is against the forms, and what is left is as it has to be
abbrev pub Clear : {V : Type 0} → (ℕ → Text → Type 0) → ℕ → Read V → Type 0
Clear Left line (got v u) = Left line u
Clear Left line (refused number l b) = number ≡ 1 → line < l

-- behind the line
abbrev pub Behind : ℕ → Text → Type 0
Behind line u = From (suc line) u

-- the value comes from so many whole lines, whatever follows them
pub record GotLines {V : Type 0} (r : Text → Read V) (line : ℕ) (s : List ℕ) (v : V) (u : Text) : Type 0 where
  pub count : ℕ
  pub front : List ℕ
  pub back : List ℕ
  pub cut : s ≡ front ++ back
  pub lines : WholeLines count front
  pub behind : u ≡ begins (line + count) back
  pub whatever : (c : List ℕ) → r (begins line (front ++ c)) ≡ got v (begins (line + count) c)

-- the fault is the first one
pub record StoppedLines {V : Type 0} (Left : ℕ → Text → Type 0) (r : Text → Read V) (line : ℕ) (s : List ℕ) (number l b : ℕ) : Type 0 where
  pub count : ℕ
  pub before : List ℕ
  pub front : List ℕ
  pub back : List ℕ
  pub cut : s ≡ before ++ (front ++ back)
  pub lines : WholeLines count before
  pub same_line : l ≡ line + count
  pub unbroken : Unbroken front
  pub place : b ≡ suc (length front)
  pub numbered : (1 ≤ number) × (number ≤ 6)
  pub faultless : (c : List ℕ) → NotBefore l (r (begins line (before ++ c)))
  pub goes_on : number ≡ 1 → (c : List ℕ) × Clear Left l (r (begins line (before ++ (front ++ c))))
  pub cannot : number ≡ 1 → (x : ℕ) (w : List ℕ) → back ≡ x ∷ w → (c : List ℕ) → r (begins line (before ++ (front ++ x ∷ c))) ≡ refused 1 l b
  pub decided : 2 ≤ number → (q : List ℕ) × (after : List ℕ) × (back ≡ q ++ 10 ∷ after) × Unbroken q × ((c : List ℕ) → r (begins line (before ++ (front ++ (q ++ 10 ∷ c)))) ≡ refused number l b)

-- more lines may follow what is got
abbrev pub LinesCut : {V : Type 0} → (Text → Read V) → ℕ → List ℕ → Read V → Type 0
LinesCut r line s (got v u) = GotLines r line s v u
LinesCut r line s (refused number l b) = StoppedLines Behind r line s number l b

-- the law of a reader of lines
abbrev pub LinesLaw : {V : Type 0} → (Text → Read V) → Type 0
LinesLaw r = (line : ℕ) (s : List ℕ) → LinesCut r line s (r (begins line s))

-- where the text has to end, a value is got from all of it
abbrev pub Anything : ℕ → Text → Type 0
Anything line u = Unit {0}

abbrev pub LastCut : {V : Type 0} → (Text → Read V) → ℕ → List ℕ → Read V → Type 0
LastCut r line s (got v u) = (n : ℕ) × WholeLines n s × (u ≡ begins (line + n) [])
LastCut r line s (refused number l b) = StoppedLines Anything r line s number l b

-- the law of a reader of the last lines
abbrev pub LastLaw : {V : Type 0} → (Text → Read V) → Type 0
LastLaw r = (line : ℕ) (s : List ℕ) → LastCut r line s (r (begins line s))

-- a reader that reads nothing
pub nothing_read : {V : Type 0} (v : V) → LinesLaw (λ t. got v t)
nothing_read v line s =
    let here : line ≡ line + 0 = omega arith in
    record { count = 0; front = []; back = s; cut = refl; lines = refl; behind = ap (λ k. begins k s) here; whatever = λ c. ap (λ k. got v (begins k c)) here }

lines_append : (m n : ℕ) (s t : List ℕ) → WholeLines m s → WholeLines n t → WholeLines (m + n) (s ++ t)
lines_append zero n s t h k =
    let none : n ≡ 0 + n = omega arith in
    subst (λ i. WholeLines i (s ++ t)) none (subst (λ x. WholeLines n (x ++ t)) (sym h) k)
lines_append (suc m) n s t h k =
    let more : suc (m + n) ≡ suc m + n = omega arith in
    let joined : s ++ t ≡ h.0 ++ 10 ∷ (h.1 ++ t) = ap {B = List ℕ} (λ x. x ++ t) h.2 ∙ append_assoc h.0 (10 ∷ h.1) t in
    subst (λ i. WholeLines i (s ++ t)) more (h.0, h.1 ++ t, joined, h.3, lines_append m n h.1 t h.4 k)

-- no reader finds a fault before the line that it begins at
abbrev Starts : {V : Type 0} → (Text → Read V) → Type 0
Starts r = (line : ℕ) (s : List ℕ) → NotBefore line (r (begins line s))

module _ {V : Type 0} (r : Text → Read V) where
  lines_start : LinesLaw r → Starts r
  lines_start law line s = go (r (begins line s)) (law line s)
    where
      go : (o : Read V) → LinesCut r line s o → NotBefore line o
      go (got v u) h = (line + h.count, h.back, h.behind, omega arith)
      go (refused n l b) h = omega (arith, h.same_line)

  last_start : LastLaw r → Starts r
  last_start law line s = go (r (begins line s)) (law line s)
    where
      go : (o : Read V) → LastCut r line s o → NotBefore line o
      go (got v u) h = (line + h.0, [], h.2, omega arith)
      go (refused n l b) h = omega (arith, h.same_line)

later : {V : Type 0} (line k : ℕ) (o : Read V) → line ≤ k → NotBefore k o → NotBefore line o
later line k (got v u) le h = (h.0, h.1, h.2, omega (arith, h.3))
later line k (refused n l b) le h = omega arith

-- a refusal of one reader or, with its value, of another on what is left
module _ {V W : Type 0} (Left : ℕ → Text → Type 0) (enough : (line : ℕ) (u : Text) → Behind line u → Left line u) (r : Text → Read V) (f : V → Text → Read W) (starts : (v : V) → Starts (f v)) where
  abbrev both : Text → Read W
  both t = then (r t) f

  next_starts : (line : ℕ) (v : V) (u : Text) → From line u → NotBefore line (f v u)
  next_starts line v u h = subst (λ x. NotBefore line (f v x)) (sym h.2) (later line h.0 _ h.3 (starts v h.0 h.1))

  both_faultless : (line : ℕ) (o : Read V) → NotBefore line o → NotBefore line (then o f)
  both_faultless line (got v u) h = next_starts line v u h
  both_faultless line (refused n l b) h = h

  clear : (line : ℕ) (o : Read W) → NotBefore (suc line) o → Clear Left line o
  clear line (got w u) h = enough line u h
  clear line (refused n l b) h = λ _. h

  both_clear : (line : ℕ) (o : Read V) → Clear Behind line o → Clear Left line (then o f)
  both_clear line (got v u) h = clear line (f v u) (next_starts (suc line) v u h)
  both_clear line (refused n l b) h = h

  stopped_first : (line : ℕ) (s : List ℕ) (number l b : ℕ) → StoppedLines Behind r line s number l b → StoppedLines Left both line s number l b
  stopped_first line s number l b h =
      record {
        count = h.count;
        before = h.before;
        front = h.front;
        back = h.back;
        cut = h.cut;
        lines = h.lines;
        same_line = h.same_line;
        unbroken = h.unbroken;
        place = h.place;
        numbered = h.numbered;
        faultless = λ c. both_faultless l _ (h.faultless c);
        goes_on = λ e. let (c, clears) = h.goes_on e in (c, both_clear l _ clears);
        cannot = λ e x w is c. ap (λ o. then o f) (h.cannot e x w is c);
        decided = λ e. let (q, after, ended, unbroken, whatever) = h.decided e in (q, after, ended, unbroken, λ c. ap (λ o. then o f) (whatever c));
      }

-- the first got its value
module _ {V W : Type 0} (r : Text → Read V) (f : V → Text → Read W) (line : ℕ) (s : List ℕ) (v : V) (u : Text) (h : GotLines r line s v u) where
  reread : (a c : List ℕ) → then (r (begins line (h.front ++ a ++ c))) f ≡ f v (begins (line + h.count) (a ++ c))
  reread a c = ap (λ x. then (r (begins line x)) f) (append_assoc h.front a c) ∙ ap (λ o. then o f) (h.whatever (a ++ c))

  joined_cut : (a c : List ℕ) → h.back ≡ a ++ c → s ≡ h.front ++ a ++ c
  joined_cut a c e = h.cut ∙ ap {B = List ℕ} (λ y. h.front ++ y) e ∙ sym (append_assoc h.front a c)

  stopped_second : (Left : ℕ → Text → Type 0) (number l b : ℕ) → StoppedLines Left (f v) (line + h.count) h.back number l b → StoppedLines Left (λ t. then (r t) f) line s number l b
  stopped_second Left number l b g =
      record {
        count = h.count + g.count;
        before = h.front ++ g.before;
        front = g.front;
        back = g.back;
        cut = joined_cut g.before (g.front ++ g.back) g.cut;
        lines = lines_append h.count g.count h.front g.before h.lines g.lines;
        same_line = omega (arith, g.same_line);
        unbroken = g.unbroken;
        place = g.place;
        numbered = g.numbered;
        faultless = λ c. subst (NotBefore l) (sym (reread g.before c)) (g.faultless c);
        goes_on = λ e. let (c, clears) = g.goes_on e in (c, subst (Clear Left l) (sym (reread g.before (g.front ++ c))) clears);
        cannot = λ e x w is c. reread g.before (g.front ++ x ∷ c) ∙ g.cannot e x w is c;
        decided = λ e. let (q, after, ended, unbroken, whatever) = g.decided e in (q, after, ended, unbroken, λ c. reread g.before (g.front ++ (q ++ 10 ∷ c)) ∙ whatever c);
      }

  got_second : (o : Read W) → LinesCut (f v) (line + h.count) h.back o → LinesCut (λ t. then (r t) f) line s o
  got_second (got w x) g =
      let on : line + h.count + g.count ≡ line + (h.count + g.count) = omega arith in
      record {
        count = h.count + g.count;
        front = h.front ++ g.front;
        back = g.back;
        cut = joined_cut g.front g.back g.cut;
        lines = lines_append h.count g.count h.front g.front h.lines g.lines;
        behind = g.behind ∙ ap (λ k. begins k g.back) on;
        whatever = λ c. reread g.front c ∙ g.whatever c ∙ ap (λ k. got w (begins k c)) on;
      }
  got_second (refused number l b) g = stopped_second Behind number l b g

  last_second : (o : Read W) → LastCut (f v) (line + h.count) h.back o → LastCut (λ t. then (r t) f) line s o
  last_second (got w x) g =
      let on : line + h.count + g.0 ≡ line + (h.count + g.0) = omega arith in
      (h.count + g.0, subst (WholeLines (h.count + g.0)) (sym h.cut) (lines_append h.count g.0 h.front h.back h.lines g.1), g.2 ∙ ap (λ k. begins k []) on)
  last_second (refused number l b) g = stopped_second Anything number l b g

-- one reader after another, with more lines to follow
module _ {V W : Type 0} (r : Text → Read V) (f : V → Text → Read W) (law : LinesLaw r) where
  pub and_then : ((v : V) → LinesLaw (f v)) → LinesLaw (λ t. then (r t) f)
  and_then laws line s = go (r (begins line s)) (law line s)
    where
      go : (o : Read V) → LinesCut r line s o → LinesCut (λ t. then (r t) f) line s (then o f)
      go (got v u) h = subst (λ x. LinesCut (λ t. then (r t) f) line s (f v x)) (sym h.behind) (got_second r f line s v u h _ (laws v (line + h.count) h.back))
      go (refused number l b) h = stopped_first Behind (λ _ _ k. k) r f (λ v. lines_start (f v) (laws v)) line s number l b h

  -- with the last lines behind it
  pub and_last : ((v : V) → LastLaw (f v)) → LastLaw (λ t. then (r t) f)
  and_last laws line s = go (r (begins line s)) (law line s)
    where
      go : (o : Read V) → LinesCut r line s o → LastCut (λ t. then (r t) f) line s (then o f)
      go (got v u) h = subst (λ x. LastCut (λ t. then (r t) f) line s (f v x)) (sym h.behind) (last_second r f line s v u h _ (laws v (line + h.count) h.back))
      go (refused number l b) h = stopped_first Anything (λ _ _ _. tt) r f (λ v. last_start (f v) (laws v)) line s number l b h

pub times_law : {V : Type 0} (one : Text → Read V) → LinesLaw one → (n : ℕ) → LinesLaw (times n one)
times_law one law zero = nothing_read []
times_law one law (suc n) =
    and_then one (λ v u. then (times n one u) (λ vs w. got (v ∷ vs) w)) law
    (λ v. and_then (times n one) (λ vs w. got (v ∷ vs) w) (times_law one law n) (λ vs. nothing_read (v ∷ vs)))

-- nothing but the end of the text
pub end_law : {W : Type 0} (w : W) → LastLaw (λ t. then (nothing_left t.rest t) (λ _ u. got w u))
end_law w line [] = (0, refl, ap (λ k. begins k []) (omega arith))
end_law w line (x ∷ s) =
    record {
      count = 0;
      before = [];
      front = [];
      back = x ∷ s;
      cut = refl;
      lines = refl;
      same_line = omega arith;
      unbroken = tt;
      place = refl;
      numbered = (omega arith, omega arith);
      faultless = faultless;
      goes_on = λ _. ([], tt);
      cannot = λ _ y w is c. refl;
      decided = λ k. absurd (omega arith);
    }
  where
    faultless : (c : List ℕ) → NotBefore line (then (nothing_left c (begins line c)) (λ _ u. got w u))
    faultless [] = (line, [], refl, omega arith)
    faultless (y ∷ c) = omega arith
