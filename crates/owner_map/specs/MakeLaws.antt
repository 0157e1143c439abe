-- How the four makes agree, for n positions over p boards.
use Rattle.std.specs.Prelude.{◌≡◌, ℕ, ◌≤◌}
use Rattle.owner_map.specs.declared.makes.Make.{Make}
use Rattle.owner_map.specs.declared.makes.Make.TheVariants.{One, Block, Cyclic, CyclicBy}
use Rattle.owner_map.specs.Rules.{deal_of, block_width, LeastWidth}

pub record MakesAgree (p n : ℕ) : Type 0 where
  -- the width of a block is the least that leaves no position over
  pub block_is_least : LeastWidth p n (block_width p n)
  -- block deals runs of that width
  pub block_is_runs : deal_of Block p n ≡ deal_of (CyclicBy (block_width p n)) p n
  -- cyclic deals runs of one position
  pub cyclic_is_runs : deal_of Cyclic p n ≡ deal_of (CyclicBy 1) p n
  -- a run that covers everything leaves it all to board 0
  pub wide_is_one : (k : ℕ) → n ≤ k → deal_of (CyclicBy k) p n ≡ deal_of One p n
  -- a single board owns everything, however it is dealt
  pub single_is_one : p ≡ 1 → (make : Make) → deal_of make p n ≡ deal_of One p n
