-- What a nest keeps, part by part. Assumes nothing.
use Rattle.std.proofs.Common.{◌≡◌, ℕ, zero, suc, ◌*◌, ◌<◌, ◌≤◌, Bool, true, ◌&&◌, leb, List, [], ◌∷◌, length, get_or, arith}
use Rattle.std.proofs.lemmas.Bool.{and_parts, leb-true}
use Rattle.nest.specs.declared.terms.Grid.{Grid}
use Rattle.nest.specs.declared.terms.Array.{Array}
use Rattle.nest.specs.Terms.{Said}
use Rattle.nest.specs.Sound.{between, each, grid_kept, map_kept, array_kept, statement_kept, nest_kept}

pub bounds : (low high n : ℕ) → between low high n ≡ true → (low ≤ n) × (n ≤ high)
bounds low high n k = let p = and_parts (leb low n) (leb n high) k in (leb-true low n p.0, leb-true n high p.1)

-- what holds of each of a list holds at each index
pub each_at : {X : Type 0} (f : X → Bool) (xs : List X) → each f xs ≡ true → (k : ℕ) (d : X) → k < length xs → f (get_or xs k d) ≡ true
each_at f [] h k d l = absurd (omega arith)
each_at f (x ∷ xs) h zero d l = (and_parts (f x) (each f xs) h).0
each_at f (x ∷ xs) h (suc k) d l = each_at f xs (and_parts (f x) (each f xs) h).1 k d (omega arith)

pub record GridParts (g : Grid) : Type 0 where
  pub rows : (1 ≤ g.rows) × (g.rows ≤ 8)
  pub columns : (1 ≤ g.columns) × (g.columns ≤ 8)
  pub boards : g.rows * g.columns ≤ 8

pub grid_parts_lem : (g : Grid) → grid_kept g ≡ true → GridParts g
grid_parts_lem g k =
    let p = and_parts (between 1 8 g.rows && between 1 8 g.columns) (leb (g.rows * g.columns) 8) k in
    let q = and_parts (between 1 8 g.rows) (between 1 8 g.columns) p.0 in
    record { rows = bounds 1 8 g.rows q.0; columns = bounds 1 8 g.columns q.1; boards = leb-true _ 8 p.1 }

pub record ArrayParts (a : Array) : Type 0 where
  pub rows : (1 ≤ a.rows) × (a.rows ≤ 32)
  pub columns : (1 ≤ a.columns) × (a.columns ≤ 32)
  pub by_rows : map_kept a.row_map ≡ true
  pub by_columns : map_kept a.column_map ≡ true

pub array_parts : (a : Array) → array_kept a ≡ true → ArrayParts a
array_parts a k =
    let p = and_parts (between 1 32 a.rows && between 1 32 a.columns && map_kept a.row_map) (map_kept a.column_map) k in
    let q = and_parts (between 1 32 a.rows && between 1 32 a.columns) (map_kept a.row_map) p.0 in
    let r = and_parts (between 1 32 a.rows) (between 1 32 a.columns) q.0 in
    record { rows = bounds 1 32 a.rows r.0; columns = bounds 1 32 a.columns r.1; by_rows = q.1; by_columns = p.1 }

pub record NestParts (g : Grid) (arrays : List Array) (sweeps : ℕ) (statements : List Said) : Type 0 where
  pub grid : grid_kept g ≡ true
  pub some_arrays : (1 ≤ length arrays) × (length arrays ≤ 4)
  pub each_array : each array_kept arrays ≡ true
  pub few_sweeps : sweeps ≤ 1000
  pub some_statements : (1 ≤ length statements) × (length statements ≤ 8)
  pub each_statement : each (statement_kept arrays) statements ≡ true

pub nest_parts : (g : Grid) (arrays : List Array) (sweeps : ℕ) (statements : List Said) → nest_kept g arrays sweeps statements ≡ true → NestParts g arrays sweeps statements
nest_parts g arrays sweeps statements k =
    let front = grid_kept g && between 1 4 (length arrays) in
    let p = and_parts (front && each array_kept arrays && leb sweeps 1000 && between 1 8 (length statements)) (each (statement_kept arrays) statements) k in
    let q = and_parts (front && each array_kept arrays && leb sweeps 1000) (between 1 8 (length statements)) p.0 in
    let r = and_parts (front && each array_kept arrays) (leb sweeps 1000) q.0 in
    let s = and_parts front (each array_kept arrays) r.0 in
    let t = and_parts (grid_kept g) (between 1 4 (length arrays)) s.0 in
    record {
      grid = t.0;
      some_arrays = bounds 1 4 (length arrays) t.1;
      each_array = s.1;
      few_sweeps = leb-true sweeps 1000 r.1;
      some_statements = bounds 1 8 (length statements) q.1;
      each_statement = p.1;
    }
