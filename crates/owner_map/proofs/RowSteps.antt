-- Steps of a walk along a row of owners, and what is counted along one.
use Rattle.std.proofs.Common.{◌≡◌, ℕ, ◌+◌, ◌-◌, ◌<◌, ◌≤◌, List, length, get_or, take, count_by, Some, None, ◌==◌, sym, ap, ◌∙◌, arith}
use Rattle.std.proofs.lemmas.List.{take_all, take-take, get_or-take}
use Rattle.std.proofs.lemmas.Bool.Decides.{nat_tests}
use Rattle.owner_map.specs.Meaning.{Sound, owner, place, below, tally, seek}
use Rattle.owner_map.specs.Listed.{listed}
use Rattle.owner_map.specs.Tallies.{tally_counts, tally_more, seek_finds, seek_none}

module _ (b : ℕ) (row : List ℕ) (i : ℕ) (within : i < length row) where
  pub tally_hit : get_or row i 0 ≡ b → tally b (take (i + 1) row) ≡ tally b (take i row) + 1
  tally_hit e = let t = tally_more b row i within in grind (arith, nat_tests)

  pub tally_miss : (get_or row i 0 ≡ b → ⊥) → tally b (take (i + 1) row) ≡ tally b (take i row)
  tally_miss e = let t = tally_more b row i within in grind (arith, nat_tests)

-- The board stands here, after r earlier ones.
pub seek_here : (b : ℕ) (row : List ℕ) (i r : ℕ) → i < length row → get_or row i 0 ≡ b → tally b (take i row) ≡ r → Some (i + 1) ≡ seek 1 b r row
seek_here b row i r within e t =
    let s : 1 + i ≡ i + 1 = omega arith in
    sym (rw (t, s) at (seek_finds 1 row i b within e))

-- The whole row has been walked, and the rank was not reached.
pub seek_nowhere : (b : ℕ) (row : List ℕ) (i r : ℕ) → length row ≤ i → tally b (take i row) ≤ r → None ≡ seek 1 b r row
seek_nowhere b row i r past short =
    let whole = take_all i row past in
    sym (seek_none 1 b r row (rw whole at short))

-- In a sound deal each owner that is listed is a board.
pub owner_listed : (p : ℕ) (os : List ℕ) → Sound (listed p os) → (i : ℕ) → i < length os → get_or os i 0 < p
owner_listed p os sound i within =
    let s : i + 1 - 1 ≡ i = omega arith in
    let o : get_or os (i + 1 - 1) 0 < p = sound.4 (i + 1) (omega arith) in
    rw s at o

-- What is counted in the part of a row below a bound, and the place that the row gives a position, are those of the deal that
-- the filled part of the row lists.
module _ (p size : ℕ) (row : List ℕ) where
  pub below_counted : (b bound k : ℕ) → bound ≤ size + 1 → k ≡ bound - 1 → count_by (λ o. o == b) (take k row) ≡ below (listed p (take size row)) b bound
  below_counted b bound k high e =
      sym (tally_counts b (take k row)) ∙ ap (λ n. tally b (take n row)) e ∙ sym (ap (tally b) (take-take (bound - 1) size row (omega arith)))

  pub place_counted : (x k r : ℕ) → 1 ≤ x → x ≤ size → k ≡ x - 1 → r ≡ count_by (λ o. o == get_or row k 0) (take k row) → (get_or row k 0, r) ≡ place (listed p (take size row)) x
  place_counted x k r low high e n =
      let o : get_or row k 0 ≡ owner (listed p (take size row)) x = ap (λ n. get_or row n 0) e ∙ sym (get_or-take size row (x - 1) 0 (omega arith)) in
      let t = n ∙ below_counted (get_or row k 0) x k (omega arith) e ∙ ap (λ b. below (listed p (take size row)) b x) o in
      λ i. (o i, t i)
