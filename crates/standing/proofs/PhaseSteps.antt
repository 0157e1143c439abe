-- The steps of one cell, phase by phase. Assumes nothing.
use Rattle.std.proofs.Common.{◌≡◌, ℕ, zero, suc, ◌+◌, ◌<◌, Bool, true, false, cond, eqb, ltb, List, [], ◌∷◌, ◌++◌, map, length, drop, is_some, Some, None, Option, sym, refl, ap, ◌∙◌, arith}
use Rattle.std.specs.List.{slice_get}
use Rattle.std.specs.Option.{option_map}
use Rattle.std.proofs.lemmas.Option.{slice_get_within, get_or_from_slice_get}
use Rattle.std.proofs.lemmas.List.{drop-map, drop_all, drop_more, length-append, length-map}
use Rattle.std.proofs.lemmas.Bool.{ltb-true, ltb-false, lt-ltb, le-ltb, eqb-true, eqb-false, ne_eqb, true≢false}
use Rattle.std.proofs.lemmas.Bool.Decides.{nat_tests}
use Rattle.nest.specs.Terms.{Said}
use Rattle.sequential.specs.declared.iteration.Iteration.{Iteration}
use Rattle.compiler.specs.declared.order.Task.{Task}
use Rattle.compiler.specs.declared.order.Task.TheVariants.{Ship as ShipTask, Base as BaseTask, Add as AddTask, Store as StoreTask}
use Rattle.compiler.specs.declared.order.Work.{Work}
use Rattle.compiler.specs.declared.order.Work.TheVariants.{One, Walk}
use Rattle.compiler.specs.Spans.{Seat}
use Rattle.compiler.specs.Deeds.{Deed, deed_in, tasks_in}
use Rattle.standing.specs.declared.place.Phase.{Phase}
use Rattle.standing.specs.declared.place.Phase.TheVariants.{Single, Ships, Base, Adds, Store}
use Rattle.standing.specs.Left.{task_in, phase_number, deed_for}
use Rattle.standing.specs.Moves.{first_phase, phase_after, goes_with}

-- a cell begins with its step 0, which goes with its work
pub first_number : (w : Work) (reads : ℕ) → phase_number reads (first_phase w reads) ≡ 0
first_number (One t) reads = refl
first_number Walk zero = refl
first_number Walk (suc n) = let e : eqb (suc n) 0 ≡ false = ne_eqb (suc n) 0 (λ h. omega arith) in rw e

pub first_goes : (w : Work) (reads : ℕ) → goes_with w reads (first_phase w reads) ≡ true
first_goes (One t) reads = refl
first_goes Walk zero = refl
first_goes Walk (suc n) = let e : eqb (suc n) 0 ≡ false = ne_eqb (suc n) 0 (λ h. omega arith) in rw e (lt-ltb 0 (suc n) (omega arith))

-- an item is there where the index is below the length
item_there : {X Y : Type 0} (f : X → Y) (xs : List X) (n : ℕ) → is_some (option_map f (slice_get xs n)) ≡ ltb n (length xs)
item_there f [] n = sym (le-ltb n 0 (omega arith))
item_there f (x ∷ xs) zero = sym (lt-ltb 0 (suc (length xs)) (omega arith))
item_there f (x ∷ xs) (suc n) = let e : ltb (suc n) (suc (length xs)) ≡ ltb n (length xs) = grind (arith, nat_tests) in item_there f xs n ∙ sym e

-- a phase has a task where it goes with the work
pub task_there : (s : Said) (w : Work) (p : Phase) → is_some (task_in s w p) ≡ goes_with w (length s.reads) p
task_there s (One t) Single = refl
task_there s (One t) _ = refl
task_there s Walk Single = refl
task_there s Walk (Ships n) = item_there ShipTask s.reads n
task_there s Walk Base = refl
task_there s Walk (Adds n) = item_there AddTask s.reads n
task_there s Walk Store = refl

-- the items of two lists in succession
item_left : {X Y : Type 0} (f : X → Y) (xs : List X) (ys : List Y) (n : ℕ) → n < length xs → slice_get (map f xs ++ ys) n ≡ option_map f (slice_get xs n)
item_left f [] ys n h = absurd (omega arith)
item_left f (x ∷ xs) ys zero h = refl
item_left f (x ∷ xs) ys (suc n) h = item_left f xs ys n (omega arith)

item_right : {X Y : Type 0} (f : X → Y) (xs : List X) (ys : List Y) (m n : ℕ) → m ≡ length xs + n → slice_get (map f xs ++ ys) m ≡ slice_get ys n
item_right f [] ys m n h = let e : m ≡ n = omega arith in rw e
item_right f (x ∷ xs) ys zero n h = absurd (omega arith)
item_right f (x ∷ xs) ys (suc m) n h = item_right f xs ys m n (omega arith)

-- from an item on, a list is that item and what comes after it
item_drop : {X : Type 0} (xs : List X) (n : ℕ) (x : X) → slice_get xs n ≡ Some x → drop n xs ≡ x ∷ drop (n + 1) xs
item_drop xs n x h = drop_more xs n x (slice_get_within xs n x h) ∙ ap (λ y. y ∷ drop (n + 1) xs) (get_or_from_slice_get xs n x x h)

-- the task at a phase's number is the phase's own
task_at : (s : Said) (w : Work) (p : Phase) → goes_with w (length s.reads) p ≡ true → slice_get (tasks_in s w) (phase_number (length s.reads) p) ≡ task_in s w p
task_at s (One t) Single h = refl
task_at s (One t) _ h = cc
task_at s Walk Single h = cc
task_at s Walk (Ships n) h = item_left ShipTask s.reads (BaseTask ∷ (map AddTask s.reads ++ (StoreTask ∷ []))) n (ltb-true n (length s.reads) h)
task_at s Walk Base h = item_right ShipTask s.reads (BaseTask ∷ (map AddTask s.reads ++ (StoreTask ∷ []))) (length s.reads) 0 (omega arith)
task_at s Walk (Adds n) h =
    item_right ShipTask s.reads (BaseTask ∷ (map AddTask s.reads ++ (StoreTask ∷ []))) (length s.reads + 1 + n) (suc n) (omega arith)
    ∙ item_left AddTask s.reads (StoreTask ∷ []) n (ltb-true n (length s.reads) h)
task_at s Walk Store h =
    item_right ShipTask s.reads (BaseTask ∷ (map AddTask s.reads ++ (StoreTask ∷ []))) (length s.reads + 1 + length s.reads) (suc (length s.reads)) (omega arith)
    ∙ item_right AddTask s.reads (StoreTask ∷ []) (length s.reads) 0 (omega arith)

-- how many steps a cell has
abbrev pub steps_in : Work → ℕ → ℕ
steps_in (One t) reads = 1
steps_in Walk reads = reads + 1 + (reads + 1)

tasks_count : (s : Said) (w : Work) → length (tasks_in s w) ≡ steps_in w (length s.reads)
tasks_count s (One t) = refl
tasks_count s Walk =
    let first = length-append (map ShipTask s.reads) (BaseTask ∷ (map AddTask s.reads ++ (StoreTask ∷ []))) in
    let second = length-append (map AddTask s.reads) (StoreTask ∷ []) in
    omega (arith, first, second, length-map s.reads ShipTask, length-map s.reads AddTask)

-- what the phase after a phase is: the next by number, or none after the last
abbrev pub Follows : Work → ℕ → Phase → Option Phase → Type 0
Follows w reads p None = phase_number reads p + 1 ≡ steps_in w reads
Follows w reads p (Some q) = (phase_number reads q ≡ phase_number reads p + 1) × (goes_with w reads q ≡ true)

pub phase_follows : (w : Work) (reads : ℕ) (p : Phase) → goes_with w reads p ≡ true → Follows w reads p (phase_after p reads)
phase_follows (One t) reads Single h = refl
phase_follows (One t) reads _ h = absurd (true≢false (sym h))
phase_follows Walk reads Single h = absurd (true≢false (sym h))
phase_follows Walk reads (Ships n) h = step (ltb (n + 1) reads) refl
  where
    step : (t : Bool) → ltb (n + 1) reads ≡ t → Follows Walk reads (Ships n) (Some (cond t (Ships (n + 1)) Base))
    step true e = (refl, e)
    step false e = (omega (arith, ltb-true n reads h, ltb-false (n + 1) reads e), refl)
phase_follows Walk reads Base h = step (eqb reads 0) refl
  where
    step : (t : Bool) → eqb reads 0 ≡ t → Follows Walk reads Base (Some (cond t Store (Adds 0)))
    step true e = (omega (arith, eqb-true reads 0 e), refl)
    step false e = (omega arith, lt-ltb 0 reads (omega (arith, eqb-false reads 0 e)))
phase_follows Walk reads (Adds n) h = step (ltb (n + 1) reads) refl
  where
    step : (t : Bool) → ltb (n + 1) reads ≡ t → Follows Walk reads (Adds n) (Some (cond t (Adds (n + 1)) Store))
    step true e = (omega arith, e)
    step false e = (omega (arith, ltb-true n reads h, ltb-false (n + 1) reads e), refl)
phase_follows Walk reads Store h = omega arith

-- the steps of a cell after a phase
abbrev pub rest_of : List Deed → ℕ → Option Phase → List Deed
rest_of deeds reads None = []
rest_of deeds reads (Some q) = drop (phase_number reads q) deeds

-- from a phase on, the steps of a cell are the phase's own and those after it
pub phase_step : (b : Seat) (s : Said) (cell : Option Iteration) (w : Work) (p : Phase) → goes_with w (length s.reads) p ≡ true
    → drop (phase_number (length s.reads) p) (map (deed_in b s cell) (tasks_in s w))
    ≡ deed_for b s cell (task_in s w p) ∷ rest_of (map (deed_in b s cell) (tasks_in s w)) (length s.reads) (phase_after p (length s.reads))
phase_step b s cell w p h =
    drop-map (deed_in b s cell) (phase_number reads p) (tasks_in s w)
    ∙ own (task_in s w p) (task_there s w p ∙ h) (task_at s w p h)
    ∙ ap (λ r. deed_for b s cell (task_in s w p) ∷ r) (rest (phase_after p reads) (phase_follows w reads p h))
  where
    reads : ℕ
    reads = length s.reads

    own : (t : Option Task) → is_some t ≡ true → slice_get (tasks_in s w) (phase_number reads p) ≡ t
        → map (deed_in b s cell) (drop (phase_number reads p) (tasks_in s w)) ≡ deed_for b s cell t ∷ map (deed_in b s cell) (drop (phase_number reads p + 1) (tasks_in s w))
    own None there e = absurd (true≢false (sym there))
    own (Some t) there e = ap (map (deed_in b s cell)) (item_drop (tasks_in s w) (phase_number reads p) t e)

    rest : (q : Option Phase) → Follows w reads p q → map (deed_in b s cell) (drop (phase_number reads p + 1) (tasks_in s w)) ≡ rest_of (map (deed_in b s cell) (tasks_in s w)) reads q
    rest None f = ap (map (deed_in b s cell)) (drop_all (phase_number reads p + 1) (tasks_in s w) (omega (arith, tasks_count s w, f)))
    rest (Some q) f = rw f.0 (sym (drop-map (deed_in b s cell) (phase_number reads p + 1) (tasks_in s w)))
