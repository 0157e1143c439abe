-- What a refusal of a sheet means for its bytes, and what an accepted sheet is made of. All of it is about `verdict_on` alone. Assumes nothing.
use Rattle.std.specs.Prelude.{◌≡◌, ℕ, zero, suc, ◌<◌, ◌≤◌, List, [], ◌∷◌, ◌++◌, length}
use Rattle.tokens.specs.FormLaws.{Unbroken}
use Rattle.sheet.specs.Verdicts.{fine, wrong}
use Rattle.sheet.specs.Lines.{verdict_on}
use Rattle.nest.specs.Terms.{Sheet}

-- so many lines, each ended by its only newline (10)
abbrev pub WholeLines : ℕ → List ℕ → Type 0
WholeLines zero s = s ≡ []
WholeLines (suc n) s = (front : List ℕ) × (back : List ℕ) × (s ≡ front ++ 10 ∷ back) × Unbroken front × WholeLines n back

-- where the place (line, byte) cuts a text: the lines before, what stands before the place on its own line, and all from the place on
pub record Placed (bytes : List ℕ) (line byte : ℕ) : Type 0 where
  pub earlier : ℕ
  pub before : List ℕ
  pub front : List ℕ
  pub back : List ℕ
  pub cut : bytes ≡ before ++ (front ++ back)
  pub lines : WholeLines earlier before
  pub counted : line ≡ suc earlier
  pub on_one_line : Unbroken front
  pub reached : byte ≡ suc (length front)

-- no fault in the lines before: whatever follows them, a fault of the whole is in no earlier line
abbrev pub FaultlessBefore : (before : List ℕ) (line : ℕ) → Type 0
FaultlessBefore before line = (rest : List ℕ) (number l b : ℕ) → verdict_on (before ++ rest) ≡ wrong number l b → line ≤ l

-- A fault of the form (number 1). What stands before the place can be continued so that up to and with its line nothing
-- is against the forms; with the next byte it cannot: whatever follows that byte, the fault stays at the place.
-- Where nothing stands at the place, the text ends too early.
pub record StopsThere (before front back : List ℕ) (line byte : ℕ) : Type 0 where
  pub goes_on : (rest : List ℕ) × ((l b : ℕ) → verdict_on (before ++ (front ++ rest)) ≡ wrong 1 l b → line < l)
  pub cannot : (x : ℕ) (w : List ℕ) → back ≡ x ∷ w → (rest : List ℕ) → verdict_on (before ++ (front ++ x ∷ rest)) ≡ wrong 1 line byte

-- a fault of another number: its line is whole, and the text up to the end of the line decides, whatever follows
pub record DecidedByLine (before front back : List ℕ) (number line byte : ℕ) : Type 0 where
  pub to_end : List ℕ
  pub after : List ℕ
  pub ended : back ≡ to_end ++ 10 ∷ after
  pub on_one_line : Unbroken to_end
  pub whatever : (rest : List ℕ) → verdict_on (before ++ (front ++ (to_end ++ 10 ∷ rest))) ≡ wrong number line byte

-- a refusal names the first fault of a sheet
pub record FirstFault (bytes : List ℕ) (number line byte : ℕ) : Type 0 where
  pub numbered : (1 ≤ number) × (number ≤ 6)
  pub place : Placed bytes line byte
  pub faultless : FaultlessBefore place.before line
  pub form : number ≡ 1 → StopsThere place.before place.front place.back line byte
  pub meaning : 2 ≤ number → DecidedByLine place.before place.front place.back number line byte

-- every refusal
abbrev pub RefusalLaw : Type 0
RefusalLaw = (bytes : List ℕ) (number line byte : ℕ) → verdict_on bytes ≡ wrong number line byte → FirstFault bytes number line byte

-- an accepted sheet is made of whole lines
abbrev pub AcceptedLaw : Type 0
AcceptedLaw = (bytes : List ℕ) (sheet : Sheet) → verdict_on bytes ≡ fine sheet → (n : ℕ) × WholeLines n bytes
