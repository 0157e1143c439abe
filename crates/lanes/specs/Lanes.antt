-- How lanes keep their letters: one ring for each ordered pair, over one slice. Assumes nothing.
use Rattle.std.specs.Prelude.{◌≡◌, ℕ, ◌+◌, ◌*◌, ◌<◌, ◌≤◌, cond, ◌&&◌, List, [], ◌++◌, take, drop, nat_lt, slice_index_or, Ok, Err, Result}
use Rattle.lanes.specs.declared.rings.Ring.{Ring}
use Rattle.post.specs.declared.answers.PostRefusal.{PostRefusal}
use Rattle.post.specs.Answers.{service}
use Rattle.post.specs.Mail.{Mail, Served}

-- A pair that no table holds: an empty ring.
abbrev pub no_ring : Ring
no_ring = record { first = 0; count = 0 }

abbrev pub ring_at : List Ring → ℕ → Ring
ring_at rings k = slice_index_or rings k no_ring

-- A ring of at most d letters, which begins inside its lane of d places.
abbrev pub Fits : ℕ → Ring → Type 0
Fits d ring = (ring.count ≤ d) × (0 < d → ring.first < d)

-- Each ring fits its lane of d places.
abbrev pub Within : ℕ → List Ring → Type 0
Within d rings = (k : ℕ) → Fits d (ring_at rings k)

-- The place of the pair p, q among those of n boards, by sender and then receiver.
abbrev pub place : ℕ → ℕ → ℕ → ℕ
place n p q = p * n + q

-- The lane of pair k: d places of the slice.
abbrev pub lane : {V : Type 0} → ℕ → List V → ℕ → List V
lane d letters k = take d (drop (k * d) letters)

-- The letters of a ring in its lane, oldest first: from the first place on, round to the lane's start.
abbrev pub in_ring : {V : Type 0} → Ring → List V → List V
in_ring ring places = take ring.count (drop ring.first places ++ take ring.first places)

-- The post that lanes of n boards and depth d mean.
abbrev pub lanes_mail : {V : Type 0} → ℕ → ℕ → List Ring → List V → Mail V
lanes_mail n d rings letters = record {
  boards = n;
  depth = d;
  row = λ p q. cond (nat_lt p n && nat_lt q n) (in_ring (ring_at rings (place n p q)) (lane d letters (place n p q))) [];
}

-- What asking for the place of the pair p, q among those of n boards gives: the place, below n * n and 64, of a pair that
-- is served; else the refusal.
abbrev pub Placed : ℕ → ℕ → ℕ → Result ℕ PostRefusal → Type 0
Placed n p q (Ok k) = Served n p q × (k ≡ place n p q) × (k < n * n) × (k < 64)
Placed n p q (Err e) = service n p q ≡ Err e
