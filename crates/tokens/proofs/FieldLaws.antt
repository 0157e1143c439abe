-- The extent of each kind of field ends or sticks at the first byte that cannot go on. Assumes nothing.
use Rattle.std.proofs.Common.{◌≡◌, ℕ, zero, suc, true, false, cond, eqb, ltb, ◌⊎◌, List, [], ◌∷◌, refl, ap, ◌∙◌, inl, inr, arith, Ok}
use lib.Dec.{eqb-suc-zero}
use Rattle.std.proofs.lemmas.Bool.{eqb-true, lt-ltb, cond-true, cond-false, cases_Bool, both_ways}
use Rattle.tokens.specs.declared.extent.FieldKind.{FieldKind}
use Rattle.tokens.specs.declared.extent.FieldKind.TheVariants.{Number, Signed, Mode, Variable, Map}
use Rattle.tokens.specs.Extents.{Extent, stuck, digit, digits, shared, some_of, literal, one_of, number, positive, signed, width, one_word, block_word, cyclic_map_word, map_word, extent_of}
use Rattle.tokens.specs.FormLaws.{Unbroken}
use Rattle.tokens.proofs.Extending.{ExtentLaw, Goes, Begins, needs_byte, may_end}
use Rattle.tokens.proofs.Spelling.{nothing, nothing_law, behind_begins, literal_begins}

-- begins with no digit and no colon (58): what may follow a field of any kind
abbrev pub Quiet : List ℕ → Type 0
Quiet [] = Unit {0}
Quiet (b ∷ s) = (digit b ≡ false) × (eqb b 58 ≡ false)

-- what an extent does at one byte
abbrev Step : (List ℕ → Extent) → ℕ → Type 0
Step f b = Goes Quiet f b ⊎ ((s : List ℕ) → f (b ∷ s) ≡ stuck 0)

-- where two extents are the same at a byte, one does what the other does
same_goes : (f g : List ℕ → Extent) (b : ℕ) → ((s : List ℕ) → f (b ∷ s) ≡ g (b ∷ s)) → Goes Quiet g b → Goes Quiet f b
same_goes f g b e go = record { next = go.next; law = go.law; no_newline = go.no_newline; so = λ s. e s ∙ go.so s }

same_step : (f g : List ℕ → Extent) (b : ℕ) → ((s : List ℕ) → f (b ∷ s) ≡ g (b ∷ s)) → Step g b → Step f b
same_step f g b e (inl go) = inl (same_goes f g b e go)
same_step f g b e (inr is) = inr (λ s. e s ∙ is s)

digit_no_newline : (b : ℕ) → digit b ≡ true → b ≡ 10 → ⊥
digit_no_newline b t e = both_ways (digit b) (ap digit e) t

-- so many digits at the most
abbrev counted : ℕ → List ℕ → Extent
counted most s = Ok (digits most s)

counted_law : (most : ℕ) → ExtentLaw Quiet (counted most)
counted_law zero = nothing_law Quiet
counted_law (suc most) = more (counted_law most)
  where
    goes : ExtentLaw Quiet (counted most) → (b : ℕ) → digit b ≡ true → Goes Quiet (counted (suc most)) b
    goes law b t = record { next = counted most; law = law; no_newline = digit_no_newline b t; so = λ s. ap Ok (cond-true (digit b) (suc (digits most s)) 0 t ∙ omega arith) }

    apart : (c : List ℕ) → Quiet c → counted (suc most) c ≡ Ok 0
    apart [] p = refl
    apart (b ∷ c) p = ap Ok (cond-false (digit b) _ _ p.0)

    more : ExtentLaw Quiet (counted most) → ExtentLaw Quiet (counted (suc most))
    more law = may_end (counted (suc most)) refl (λ b. elim (cases_Bool (digit b)) [ inl t ↦ inl (goes law b t) | inr t ↦ inr (λ s. ap Ok (cond-false (digit b) _ _ t)) ]) apart

-- a byte that is not 0
module _ (b : ℕ) (other : eqb b 48 ≡ false) where
  past_zero : (s : List ℕ) → number (b ∷ s) ≡ some_of (digits 4 (b ∷ s))
  past_zero s = cond-false (eqb b 48) _ _ other

  digit_goes : digit b ≡ true → Goes Quiet number b
  digit_goes t =
      record {
        next = counted 3;
        law = counted_law 3;
        no_newline = digit_no_newline b t;
        so = λ s. past_zero s ∙ ap some_of (cond-true (digit b) (suc (digits 3 s)) 0 t) ∙ cond-false _ _ _ (eqb-suc-zero (digits 3 s)) ∙ ap Ok (omega arith);
      }

  number_step_other : Step number b
  number_step_other =
      elim (cases_Bool (digit b)) [
        | inl t ↦ inl (digit_goes t)
        | inr t ↦ inr (λ s. past_zero s ∙ ap some_of (cond-false (digit b) (suc (digits 3 s)) 0 t))
      ]

zero_goes : (b : ℕ) → eqb b 48 ≡ true → Goes Quiet number b
zero_goes b t = record { next = nothing; law = nothing_law Quiet; no_newline = λ e. let z = eqb-true b 48 t in omega arith; so = λ s. cond-true (eqb b 48) _ _ t }

number_begins : Begins Quiet number 48
number_begins =
    record {
      none = refl;
      steps = λ b. elim (cases_Bool (eqb b 48)) [ inl t ↦ inl (zero_goes b t) | inr t ↦ number_step_other b t ];
      goes = zero_goes 48 refl;
    }

number_law : ExtentLaw Quiet number
number_law = needs_byte number 48 number_begins

positive_law : ExtentLaw Quiet positive
positive_law =
    needs_byte positive 49 (record {
      none = refl;
      steps = λ b. elim (cases_Bool (eqb b 48)) [
        | inl t ↦ inr (λ s. cond-true (eqb b 48) _ _ t)
        | inr t ↦ same_step positive number b (λ s. cond-false (eqb b 48) _ _ t) (number_step_other b t)
      ];
      goes = same_goes positive number 49 (λ s. refl) (digit_goes 49 refl refl);
    })

signed_law : ExtentLaw Quiet signed
signed_law =
    needs_byte signed 48 (record {
      none = refl;
      steps = λ b. elim (cases_Bool (eqb b 45)) [
        | inl t ↦ inl (record { next = positive; law = positive_law; no_newline = λ e. let z = eqb-true b 45 t in omega arith; so = λ s. cond-true (eqb b 45) _ _ t })
        | inr t ↦ same_step signed number b (λ s. cond-false (eqb b 45) _ _ t) (number_begins.steps b)
      ];
      goes = same_goes signed number 48 (λ s. refl) number_begins.goes;
    })

width_law : ExtentLaw Quiet width
width_law =
    may_end width refl
    (λ b. elim (cases_Bool (eqb b 58)) [
      | inl t ↦ inl (record { next = number; law = number_law; no_newline = λ e. let z = eqb-true b 58 t in omega arith; so = λ s. cond-true (eqb b 58) _ _ t })
      | inr t ↦ inr (λ s. cond-false (eqb b 58) _ _ t)
    ]) apart
  where
    apart : (c : List ℕ) → Quiet c → width c ≡ Ok 0
    apart [] p = refl
    apart (b ∷ c) p = cond-false (eqb b 58) _ _ p.1

-- one extent for what begins as a word does, another for the rest
module _ (a : ℕ) (w : List ℕ) (f g : List ℕ → Extent) where
  abbrev either : List ℕ → Extent
  either s = cond (ltb 0 (shared (a ∷ w) s)) (f s) (g s)

  at_word : (b : ℕ) → eqb a b ≡ true → (s : List ℕ) → either (b ∷ s) ≡ f (b ∷ s)
  at_word b t s =
      ap (λ n. cond (ltb 0 n) (f (b ∷ s)) (g (b ∷ s))) (cond-true (eqb a b) (suc (shared w s)) 0 t)
      ∙ cond-true _ _ _ (lt-ltb 0 (suc (shared w s)) (omega arith))

  at_other : (b : ℕ) → eqb a b ≡ false → (s : List ℕ) → either (b ∷ s) ≡ g (b ∷ s)
  at_other b t s = ap (λ n. cond (ltb 0 n) (f (b ∷ s)) (g (b ∷ s))) (cond-false (eqb a b) (suc (shared w s)) 0 t)

  either_begins : {c d : ℕ} → Begins Quiet f c → Begins Quiet g d → eqb a d ≡ false → Begins Quiet either d
  either_begins {d = d} first second apart =
      record {
        none = second.none;
        steps = λ b. elim (cases_Bool (eqb a b)) [ inl t ↦ same_step either f b (at_word b t) (first.steps b) | inr t ↦ same_step either g b (at_other b t) (second.steps b) ];
        goes = same_goes either g d (at_other d apart) second.goes;
      }

one_of_law : (a b : ℕ) (w v : List ℕ) → Unbroken (a ∷ w) → Unbroken (b ∷ v) → eqb a b ≡ false → ExtentLaw Quiet (one_of (a ∷ w) (b ∷ v))
one_of_law a b w v hw hv apart =
    needs_byte (one_of (a ∷ w) (b ∷ v)) b (either_begins a w (literal (a ∷ w)) (literal (b ∷ v)) (literal_begins Quiet a w hw) (literal_begins Quiet b v hv) apart)

map_law : ExtentLaw Quiet map_word
map_law =
    let one : Begins Quiet (literal one_word) 111 = literal_begins Quiet 111 (110 ∷ 101 ∷ []) (omega arith) in
    let block : Begins Quiet (literal block_word) 98 = literal_begins Quiet 98 (108 ∷ 111 ∷ 99 ∷ 107 ∷ []) (omega arith) in
    let cyclic : Begins Quiet cyclic_map_word 99 = behind_begins Quiet width width_law 99 (121 ∷ 99 ∷ 108 ∷ 105 ∷ 99 ∷ []) (omega arith) in
    let others = either_begins 98 (108 ∷ 111 ∷ 99 ∷ 107 ∷ []) (literal block_word) cyclic_map_word block cyclic refl in
    needs_byte map_word 99 (either_begins 111 (110 ∷ 101 ∷ []) (literal one_word) _ one others refl)

-- the law of every kind of field: before what begins with no digit and no colon it stays as it is
pub field_law : (kind : FieldKind) → ExtentLaw Quiet (extent_of kind)
field_law Number = number_law
field_law Signed = signed_law
field_law Mode = one_of_law 97 115 (108 ∷ 108 ∷ []) (101 ∷ 113 ∷ []) (omega arith) (omega arith) refl
field_law Variable = one_of_law 105 106 [] [] (omega arith) (omega arith) refl
field_law Map = map_law
