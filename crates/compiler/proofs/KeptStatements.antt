-- What a statement that keeps its ranges brings for a count of its letters.
use Rattle.std.proofs.Common.{◌≡◌, ℕ, ◌<◌, ◌≤◌, true, not, ◌&&◌, leb, List, length, get_or, subst}
use Rattle.std.proofs.lemmas.Bool.{and_parts, leb-true}
use Rattle.nest.specs.Nests.{shown}
use Rattle.nest.specs.Terms.{Said, Sheet}
use Rattle.nest.specs.declared.nest.Nest.{Nest}
use Rattle.nest.specs.Sound.{each, range_kept, access_kept, is_i, read_kept, statement_kept, nest_kept}
use Rattle.nest.specs.declared.terms.Array.{Array}
use Rattle.nest.specs.declared.terms.Range.{Range}
use Rattle.nest.specs.declared.terms.ReadTerm.{ReadTerm}
use Rattle.sequential.proofs.Kept.{parts_of, target_reached, read_reached}
use Rattle.compiler.specs.LetterCounts.{Short, ShortRanges}
use Rattle.compiler.specs.OwnerTables.{Reaches}

-- a nest keeps its ranges, by whatever name it is known
pub nest_kept_as : (n : Nest) (m : Sheet) → shown n ≡ m → nest_kept m.grid m.arrays m.sweeps m.statements ≡ true
nest_kept_as n m e = subst (λ (x : Sheet). nest_kept x.grid x.arrays x.sweeps x.statements ≡ true) e n.kept

range_short : (r : Range) → range_kept r ≡ true → Short r
range_short r k =
    let p = and_parts (leb 1 r.low && leb r.low r.high) (leb r.high 32) k in
    let q = and_parts (leb 1 r.low) (leb r.low r.high) p.0 in
    (leb-true 1 r.low q.0, leb-true r.low r.high q.1, leb-true r.high 32 p.1)

module _ (arrays : List Array) (s : Said) (kept : statement_kept arrays s ≡ true) where
  pub short_ranges : ShortRanges s
  short_ranges = let p = parts_of arrays s kept in (range_short s.i p.i, range_short s.j p.j)

  -- at most four reads
  pub few_reads : length s.reads ≤ 4
  few_reads =
      let front = range_kept s.i && range_kept s.j && is_i s.put.row.variable && not (is_i s.put.column.variable) && access_kept 1 arrays s.i s.j s.put && leb s.base 7 in
      let p = and_parts (front && leb (length s.reads) 4) (each (read_kept arrays s.i s.j) s.reads) kept in
      leb-true (length s.reads) 4 (and_parts front (leb (length s.reads) 4) p.0).1

  pub target_reaches : Reaches arrays s s.put
  target_reaches e w = target_reached arrays s (parts_of arrays s kept) e w

  pub read_reaches : (items : List ReadTerm) → items ≡ s.reads → (n : ℕ) (d : ReadTerm) → n < length items → Reaches arrays s (get_or items n d).source
  read_reaches items same n d h e w = read_reached arrays s (parts_of arrays s kept) e w items same n d h
