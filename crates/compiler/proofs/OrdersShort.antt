-- A board has few orders, and their spans are short. Assumes nothing.
use Rattle.std.proofs.Common.{◌≡◌, ℕ, ◌+◌, ◌<◌, ◌≤◌, Bool, true, List, [], ◌∷◌, length, get_or, refl, arith, Option, Some, None}
use Rattle.std.specs.List.{AllByRecursion}
use Rattle.std.proofs.ByRecursion.{All-map, All-weaker, sum_by_le}
use Rattle.std.proofs.lemmas.List.Concat.{length-flat_map}
use Rattle.std.proofs.lemmas.List.{length-map}
use Rattle.std.proofs.lemmas.Bool.{and_parts}
use Rattle.nest.specs.Sound.{each, array_kept, statement_kept}
use Rattle.nest.specs.Terms.{position, nowhere, Said}
use Rattle.nest.specs.declared.terms.Array.{Array}
use Rattle.nest.specs.declared.terms.Mode.{Mode}
use Rattle.nest.specs.declared.terms.Mode.TheVariants.{All as AllAtOnce, Seq}
use Rattle.nest.specs.declared.terms.Range.{Range}
use Rattle.nest.proofs.Keeps.{NestParts, each_at, array_parts, nest_parts}
use Rattle.owner_map.specs.Meaning.{extent}
use Rattle.owner_map.specs.Deals.{below_le}
use Rattle.dealing.specs.declared.dimension.Dimension.{Dimension}
use Rattle.dealing.specs.declared.dimension.Dimension.TheVariants.{Rows, Columns}
use Rattle.sections.specs.DealtNests.{DealtNest}
use Rattle.compiler.specs.declared.span.Owning.{Owning}
use Rattle.compiler.specs.Spans.{Seat, deal_in, deal_for, self_for, span_of}
use Rattle.compiler.specs.Orders.{numbered, tasks_of, task_order, orders_by, orders_for, board_orders}
use Rattle.compiler.specs.Making.{seat_in, Seated, Spannable, Orderable}
use Rattle.compiler.specs.StepCounts.{Short, FewReads, FewOrders}
use Rattle.compiler.proofs.CellCounts.{length_tasks}
use Rattle.compiler.proofs.JoinedSums.{all_joined}
use Rattle.compiler.proofs.KeptStatements.{few_reads}
use Rattle.compiler.proofs.SpansReach.{tasks_orderable, plain_spannable}

-- kept statements have few reads
each_few : (arrays : List Array) (ss : List Said) → each (statement_kept arrays) ss ≡ true → FewReads ss
each_few arrays [] k = tt
each_few arrays (s ∷ ss) k =
    let q = and_parts (statement_kept arrays s) (each (statement_kept arrays) ss) k in
    (few_reads arrays s q.0, each_few arrays ss q.1)

length_numbered : {X : Type 0} (a : ℕ) (xs : List X) → length (numbered a xs) ≡ length xs
length_numbered a [] = refl
length_numbered a (x ∷ xs) = omega (arith, length_numbered (a + 1) xs)

-- of what passes a test: numbered, each has a number below the end, and passes
numbered_pass : {X : Type 0} (f : X → Bool) (a : ℕ) (xs : List X) → each f xs ≡ true → AllByRecursion (λ kx. (kx.0 < a + length xs) × (f kx.1 ≡ true)) (numbered a xs)
numbered_pass f a [] k = tt
numbered_pass f a (x ∷ xs) k =
    let q = and_parts (f x) (each f xs) k in
    let e : a + 1 + length xs ≡ a + length (x ∷ xs) = omega arith in (
      (omega arith, q.0),
      All-weaker _ _ (λ kx h. (omega (arith, h.0), h.1)) (numbered (a + 1) xs) (numbered_pass f (a + 1) xs q.1),
    )

module _ (d : DealtNest) (p : ℕ) (seated : Seated d p) where
  abbrev board : Seat
  board = seat_in d p

  parts : NestParts d.nest.grid d.nest.arrays d.nest.sweeps d.nest.statements
  parts = nest_parts d.nest.grid d.nest.arrays d.nest.sweeps d.nest.statements seated.kept

  -- no dimension has more than 32 positions
  deal_small : (v : Dimension) (t : ℕ) → t < length d.nest.arrays → extent (deal_in v d.deals t) ≤ 32
  deal_small Rows t l =
      let a = array_parts (get_or d.nest.arrays t nowhere) (each_at array_kept d.nest.arrays parts.each_array t nowhere l) in
      omega (arith, a.rows.1, (seated.fits.2 t l).0.1)
  deal_small Columns t l =
      let a = array_parts (get_or d.nest.arrays t nowhere) (each_at array_kept d.nest.arrays parts.each_array t nowhere l) in
      omega (arith, a.columns.1, (seated.fits.2 t l).1.1)

  span_short : (k : Option Owning) (r : Range) → Spannable board k r → (span_of board k r).end ≤ 33
  span_short None r h = omega arith
  span_short (Some o) r h =
      omega (arith, below_le (deal_for board o) (self_for board o) (position o.subscript r.high + 1), deal_small o.dimension o.array (omega (arith, h.2.1, seated.fits.0)))

  -- the orders of a statement
  module _ (m k : ℕ) (s : Said) (below : k < m) (of-nest : statement_kept d.nest.arrays s ≡ true) where
    orders_short : (mode : Mode) → AllByRecursion (Short m) (orders_by mode board k s)
    orders_short AllAtOnce =
        All-map (Short m) (task_order board k s) (tasks_of s)
        (All-weaker (Orderable board s) _ (λ t h. (below, span_short _ s.i h.0, span_short _ s.j h.1)) (tasks_of s) (tasks_orderable d p seated s of-nest))
    orders_short Seq =
        let h = plain_spannable d p seated s of-nest in
        ((below, span_short None s.i h.0, span_short None s.j h.1), tt)

    orders_few : (mode : Mode) → length (orders_by mode board k s) ≤ 10
    orders_few AllAtOnce = omega (arith, length-map (tasks_of s) (task_order board k s), length_tasks s, few_reads d.nest.arrays s of-nest)
    orders_few Seq = omega arith

  numbered_kept : AllByRecursion (λ ks. (ks.0 < 0 + length d.nest.statements) × (statement_kept d.nest.arrays ks.1 ≡ true)) (numbered 0 d.nest.statements)
  numbered_kept = numbered_pass (statement_kept d.nest.arrays) 0 d.nest.statements parts.each_statement

  all_few : length (board_orders board d.nest.statements) ≤ 80
  all_few =
      let some = parts.some_statements in
      let each-short = All-weaker _ (λ ks. length (orders_for board ks) ≤ 10) (λ ks h. orders_few (0 + length d.nest.statements) ks.0 ks.1 h.0 h.1 ks.1.mode) (numbered 0 d.nest.statements) numbered_kept in
      omega (arith, length-flat_map (orders_for board) (numbered 0 d.nest.statements), sum_by_le (λ ks. length (orders_for board ks)) 10 (numbered 0 d.nest.statements) each-short, length_numbered 0 d.nest.statements, some.1)

  -- all orders of a board
  pub board_orders_few : FewOrders d.nest.statements (board_orders board d.nest.statements)
  board_orders_few =
      let none : 0 + length d.nest.statements ≡ length d.nest.statements = omega arith in (
        all_few,
        all_joined (orders_for board) (Short (length d.nest.statements)) (numbered 0 d.nest.statements)
            (All-weaker _ _ (λ ks h. orders_short (length d.nest.statements) ks.0 ks.1 (omega (arith, h.0)) h.1 ks.1.mode) (numbered 0 d.nest.statements) numbered_kept),
      )

  pub statements_few : FewReads d.nest.statements
  statements_few = each_few d.nest.arrays d.nest.statements parts.each_statement
