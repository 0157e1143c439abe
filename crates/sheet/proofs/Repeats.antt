-- Lines that are read so many times in a row. Assumes nothing.
use Rattle.std.proofs.Common.{◌≡◌, ℕ, zero, suc, ◌<◌, false, List, [], ◌∷◌, length, vec_items, Vec, Result, Ok, Err, sym, refl, ap, ◌∙◌, subst, arith}
use Rattle.std.specs.List.{FoldsTo}
use Rattle.std.specs.declared.alloc.Global.{Global}
use denote.Param.Members.{Shared}
use denote.Ref.{MutBor}
use Rattle.tokens.specs.declared.cursor.Cursor.{Cursor}
use Rattle.tokens.specs.Texts.{Text, Read, got, refused, then}
use Rattle.tokens.specs.Views.{before}
use Rattle.nest.specs.declared.fault.SheetFault.{SheetFault}
use Rattle.nest.specs.declared.fault.SheetFault.TheVariants.{Line, Field, Nest, NoMemory}
use Rattle.sheet.specs.Answered.{lost, sheet_answer}
use Rattle.sheet.specs.Lines.{times}
use Rattle.sheet.specs.Repeated.{Reads, Repeated}

pub then_got : {V : Type 0} (r : Read V) → then r (λ v t. got v t) ≡ r
then_got (got v t) = refl
then_got (refused n l b) = refl

-- a call reads as `one` says; `all` says what a list of values stands for, as `view` says it of one
module _ {V W : Type 0} (view : V → W) (all : List V → List W) (none : all [] ≡ []) (more : (v : V) (vs : List V) → all (v ∷ vs) ≡ view v ∷ all vs)
    (one : Text → Read W) (call : Cursor → Result V SheetFault → Cursor → Type 0)
    (means : (c : Cursor) (r : Result V SheetFault) (d : Cursor) → call c r d → lost r ≡ false → sheet_answer view r d ≡ one (before c)) where
  -- one value first
  first : (v : V) (n : ℕ) (c j : Cursor) → call c (Ok v) j → times (suc n) one (before c) ≡ then (times n one (before j)) (λ ws u. got (view v ∷ ws) u)
  first v n c j h = ap (λ o. then o (λ w t. then (times n one t) (λ ws u. got (w ∷ ws) u))) (sym (means c (Ok v) j h refl))

  values : (vs : List V) (c d : Cursor) → FoldsTo (λ p v q. call p (Ok v) q) c vs d → times (length vs) one (before c) ≡ got (all vs) (before d)
  values [] c d h = ap (λ x. got [] (before x)) h ∙ ap (λ l. got l (before d)) (sym none)
  values (v ∷ vs) c d h =
      first v (length vs) c h.0 h.1
      ∙ ap (λ o. then o (λ ws u. got (view v ∷ ws) u)) (values vs h.0 d h.2)
      ∙ ap (λ l. got l (before d)) (sym (more v vs))

  fault : (vs : List V) (n : ℕ) (c p : Cursor) (e : SheetFault) (d : Cursor) → length vs < n → FoldsTo (λ p v q. call p (Ok v) q) c vs p → call p (Err e) d → lost {V = V} (Err e) ≡ false
      → times n one (before c) ≡ sheet_answer {V = List V} all (Err e) d
  fault vs zero c p e d h f k l = absurd (omega arith)
  fault [] (suc n) c p e d h f k l =
      ap (λ x. times (suc n) one (before x)) f
      ∙ ap (λ o. then o (λ w t. then (times n one t) (λ ws u. got (w ∷ ws) u))) (sym (means p (Err e) d k l))
  fault (v ∷ vs) (suc n) c p e d h f k l =
      first v n c f.0 f.1 ∙ ap (λ o. then o (λ ws u. got (view v ∷ ws) u)) (fault vs n f.0 p e d (omega arith) f.2 k l)

  lost_same : (e : SheetFault) → lost {V = Vec V Global} (Err e) ≡ false → lost {V = V} (Err e) ≡ false
  lost_same (Line f) k = k
  lost_same (Field f) k = k
  lost_same (Nest f) k = k
  lost_same NoMemory k = k

  answered : (n : ℕ) (c : Cursor) (r : Result (Vec V Global) SheetFault) (d : Cursor) → Repeated call n c r d → lost r ≡ false → sheet_answer (λ v. all (vec_items v)) r d ≡ times n one (before c)
  answered n c (Ok vs) d f k = sym (subst (λ m. times m one (before c) ≡ got (all (vec_items vs)) (before d)) f.0 (values (vec_items vs) c d f.1))
  answered n c (Err e) d f k = sym (fault f.0 n c f.1 e d f.2 f.3 f.4 (lost_same e k))

-- the same, by the calls of a closure
module _ {F V W : Type 0} (g : Shared F (MutBor Cursor × Unit {0}) (Result V SheetFault × (MutBor Cursor × Unit {0}))) (f : F) (n : ℕ) (c : Cursor) (r : Result (Vec V Global) SheetFault) (d : Cursor)
    (h : lost r ≡ false → Repeated (Reads g f) n c r d) (view : V → W) (one : Text → Read W)
    (means : (p q : MutBor Cursor) (s : Result V SheetFault) → g.post f (p, tt) (s, (q, tt)) → lost s ≡ false → sheet_answer view s q.now ≡ one (before p.now)) where
  by_calls : (p : Cursor) (s : Result V SheetFault) (q : Cursor) → Reads g f p s q → lost s ≡ false → sheet_answer view s q ≡ one (before p)
  by_calls p s q a l = ap (sheet_answer view s) (sym a.leaves) ∙ means a.shown a.left s a.met l ∙ ap (λ x. one (before x)) a.shows

  pub repeated_times : (all : List V → List W) → all [] ≡ [] → ((v : V) (vs : List V) → all (v ∷ vs) ≡ view v ∷ all vs) → lost r ≡ false → sheet_answer (λ v. all (vec_items v)) r d ≡ times n one (before c)
  repeated_times all none more k = answered view all none more one (Reads g f) by_calls n c r d (h k) k
