-- A reader of a sheet, called so many times in a row. Assumes nothing.
use Rattle.std.specs.Prelude.{◌≡◌, ℕ, ◌<◌, List, length, vec_items, Vec, Result, Ok, Err}
use Rattle.std.specs.List.{FoldsTo}
use Rattle.std.specs.declared.alloc.Global.{Global}
use denote.Param.Members.{Shared}
use denote.Ref.{MutBor}
use Rattle.tokens.specs.declared.cursor.Cursor.{Cursor}
use Rattle.nest.specs.declared.fault.SheetFault.{SheetFault}

-- a call of f with the cursor at c may give r and leave the cursor at d
pub record Reads {F V : Type 0} (g : Shared F (MutBor Cursor × Unit {0}) (Result V SheetFault × (MutBor Cursor × Unit {0}))) (f : F) (c : Cursor) (r : Result V SheetFault) (d : Cursor) : Type 0 where
  pub shown : MutBor Cursor
  pub shows : shown.now ≡ c
  pub left : MutBor Cursor
  pub met : g.post f (shown, tt) (r, (left, tt))
  pub leaves : left.now ≡ d

-- n calls give the values; fewer give values, and the next call the fault
abbrev pub Repeated : {V : Type 0} → (Cursor → Result V SheetFault → Cursor → Type 0) → ℕ → Cursor → Result (Vec V Global) SheetFault → Cursor → Type 0
Repeated call n c (Ok vs) d = (length (vec_items vs) ≡ n) × FoldsTo (λ p v q. call p (Ok v) q) c (vec_items vs) d
Repeated {V} call n c (Err e) d = (vs : List V) × (p : Cursor) × (length vs < n) × FoldsTo (λ p v q. call p (Ok v) q) c vs p × call p (Err e) d
