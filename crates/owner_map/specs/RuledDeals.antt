-- Deals by a rule, and what a closed form of their counts answers. A map of a client's own, too, meets
-- its contracts by what stands here.
use Rattle.std.specs.Prelude.{◌≡◌, ℕ, zero, suc, ◌+◌, ◌-◌, ◌<◌, ◌≤◌, cond, List, map, length, take, Some, None, ◌==◌, slice_index_or}
use Rattle.std.proofs.Common.{sym, ap, ap₂, ◌∙◌, arith}
use Rattle.std.specs.List.{range_with_len}
use Rattle.std.proofs.lemmas.List.FromFn.{length-map-range_with_len, get_or-map-range_with_len}
use Rattle.owner_map.specs.Meaning.{Sound, extent, owner, place, position, below, tally}
use Rattle.owner_map.specs.Rules.{dealt}
use Rattle.owner_map.specs.Deals.{found_by, none_past_share}
use Rattle.owner_map.specs.Tallies.{tally_more}

module _ (p n : ℕ) (rule : ℕ → ℕ) where
  pub extent_dealt : extent (dealt p n rule) ≡ n
  extent_dealt = length-map-range_with_len rule 1 n

  pub owner_dealt : (x : ℕ) → 1 ≤ x → x ≤ n → owner (dealt p n rule) x ≡ rule x
  owner_dealt x low high = get_or-map-range_with_len rule 1 n (x - 1) x 0 (omega arith) (omega arith)

  -- A rule that names boards below p makes a sound deal.
  pub sound_dealt : 1 ≤ p → p ≤ 8 → 1 ≤ n → n ≤ 32 → ((x : ℕ) → 1 ≤ x → x ≤ n → rule x < p) → Sound (dealt p n rule)
  sound_dealt some-boards few_boards some-positions few-positions within =
      let l = extent_dealt in
      (some-boards, few_boards, omega arith, omega arith, λ x on. let o = owner_dealt x on.0 (omega arith) in rw o (within x on.0 (omega arith)))

-- `held b m` is said to be how many of the first m positions board b owns: none of none, and with each
-- position one more exactly if the rule names b for it.
module _ (p n : ℕ) (rule : ℕ → ℕ) (held : ℕ → ℕ → ℕ) (start : (b : ℕ) → b < p → held b 0 ≡ 0) (next : (b m : ℕ) → b < p → held b (m + 1) ≡ held b m + cond (rule (m + 1) == b) 1 0) where
  tally_dealt : (b m : ℕ) → b < p → m ≤ n → tally b (take m (map rule (range_with_len 1 n))) ≡ held b m
  tally_dealt b zero board h = sym (start b board)
  tally_dealt b (suc m) board h =
      let row : List ℕ = map rule (range_with_len 1 n) in
      let within : m < length row = omega (arith, extent_dealt p n rule) in
      let ih : tally b (take m row) ≡ held b m = tally_dealt b m board (omega arith) in
      let o : slice_index_or row m 0 ≡ rule (m + 1) = get_or-map-range_with_len rule 1 n m (m + 1) 0 h (omega arith) in
      let s : m + 1 ≡ suc m = omega arith in
      let t : tally b (take (m + 1) row) ≡ held b (m + 1) = tally_more b row m within ∙ ap₂ (λ t o. t + cond (o == b) 1 0) ih o ∙ sym (next b m board) in
      rw s at t

  pub below_dealt : (b bound : ℕ) → b < p → bound ≤ n + 1 → below (dealt p n rule) b bound ≡ held b (bound - 1)
  below_dealt b bound board high = tally_dealt b (bound - 1) board (omega arith)

  pub place_dealt : (x : ℕ) → 1 ≤ x → x ≤ n → rule x < p → place (dealt p n rule) x ≡ (rule x, held (rule x) (x - 1))
  place_dealt x low high board =
      let o = owner_dealt p n rule x low high in
      let t = ap (λ c. below (dealt p n rule) c x) o ∙ below_dealt (rule x) x board (omega arith) in
      λ i. (o i, t i)

  -- The position after m others, if the rule names b for it and b owns r of those.
  pub position_dealt : (b r m : ℕ) → b < p → m < n → rule (m + 1) ≡ b → held b m ≡ r → position (dealt p n rule) b r ≡ Some (m + 1)
  position_dealt b r m board within named e =
      let x : ℕ = m + 1 in
      let s : x - 1 ≡ m = omega arith in
      let o : owner (dealt p n rule) x ≡ b = owner_dealt p n rule x (omega arith) (omega arith) ∙ named in
      let t : below (dealt p n rule) b x ≡ r = below_dealt b x board (omega arith) ∙ ap (held b) s ∙ e in
      found_by (dealt p n rule) b r x (omega (arith, extent_dealt p n rule)) o t

  held_rises : (b m t : ℕ) → b < p → held b m ≤ held b (m + t)
  held_rises b m zero board = let e : m + 0 ≡ m = omega arith in rw e (omega arith)
  held_rises b m (suc t) board =
      let e : m + suc t ≡ m + t + 1 = omega arith in
      rw e (omega (arith, held_rises b m t board, next b (m + t) board))

  -- None, if m positions are no fewer than all and b owns r of them.
  pub none_dealt : (b r m : ℕ) → b < p → n ≤ m → held b m ≡ r → position (dealt p n rule) b r ≡ None
  none_dealt b r m board past e =
      let size = extent_dealt p n rule in
      let all : extent (dealt p n rule) + 1 - 1 ≡ n = omega arith in
      let t : below (dealt p n rule) b (extent (dealt p n rule) + 1) ≡ held b n = below_dealt b (extent (dealt p n rule) + 1) board (omega arith) ∙ ap (held b) all in
      let more : n + (m - n) ≡ m = omega arith in
      let rises : held b n ≤ held b m = rw more at (held_rises b n (m - n) board) in
      none_past_share (dealt p n rule) b r (omega arith)
