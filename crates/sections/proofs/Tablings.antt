-- A deal's answers written into rows, position by position.
use Rattle.std.proofs.Common.{◌≡◌, ℕ, ◌+◌, ◌-◌, ◌*◌, ◌<◌, ◌≢◌, List, [], ◌∷◌, ◌++◌, length, get_or, take, set, unwrap_or, sym, ap, ◌∙◌, subst, ap₂, arith, length-set, get_or-set_other, get_or-set_same, below_more}
use Rattle.std.proofs.lemmas.List.{take_more, take_more_set, take_all}
use Rattle.owner_map.specs.Meaning.{Deal, Sound, Position, extent, owner, rank}
use Rattle.owner_map.specs.Deals.{place_determines, position_undone, some_below_share}
use Rattle.sections.specs.MapRows.{OwnersIn, RanksIn, PositionsIn}
use Rattle.sections.proofs.Cells.{rank_below}
use Rattle.sections.proofs.Lookups.{share_small}

-- places are small
pub owner_low : (d : Deal) → Sound d → (x : ℕ) → Position d x → owner d x < 8
owner_low d sound x on = omega (arith, sound.1, sound.4 x on)

pub rank_low : (d : Deal) → Sound d → (x : ℕ) → Position d x → rank d x < 32
rank_low d sound x on = omega (arith, rank_below d x on, share_small d sound (owner d x))

-- the rows are right for the first n positions
abbrev pub PlacesTo : Deal → List ℕ → List ℕ → List ℕ → ℕ → Type 0
PlacesTo d owners ranks positions n =
    (take n owners ≡ take n d.owners)
    × ((k : ℕ) → k < n → get_or ranks k 0 ≡ rank d (k + 1))
    × ((k : ℕ) → k < n → get_or positions (owner d (k + 1) * 32 + rank d (k + 1)) 0 ≡ k + 1)
    × (length owners ≡ 32) × (length ranks ≡ 32) × (length positions ≡ 256)

module _ (d : Deal) (sound : Sound d) (n : ℕ) (on : n < extent d) where
  next : Position d (n + 1)
  next = (omega arith, omega arith)

  cell_low : owner d (n + 1) * 32 + rank d (n + 1) < 256
  cell_low = omega (arith, owner_low d sound (n + 1) next, rank_low d sound (n + 1) next)

  apart : (k : ℕ) → k < n → owner d (k + 1) * 32 + rank d (k + 1) ≢ owner d (n + 1) * 32 + rank d (n + 1)
  apart k less same =
      let here : Position d (k + 1) = (omega arith, omega arith) in
      let o : owner d (k + 1) ≡ owner d (n + 1) = omega (arith, rank_low d sound (k + 1) here, rank_low d sound (n + 1) next) in
      let r : rank d (k + 1) ≡ rank d (n + 1) = omega arith in
      let e : k + 1 ≡ n + 1 = place_determines d (k + 1) (n + 1) here next (λ i. (o i, r i)) in
      omega arith

  places_more : (owners ranks positions : List ℕ) → PlacesTo d owners ranks positions n
      → PlacesTo d (set owners n (owner d (n + 1))) (set ranks n (rank d (n + 1))) (set positions (owner d (n + 1) * 32 + rank d (n + 1)) (n + 1)) (n + 1)
  places_more owners ranks positions so =
      (owned, ranked, found, length-set _ _ _ ∙ so.3, length-set _ _ _ ∙ so.4, length-set _ _ _ ∙ so.5)
    where
      owned : take (n + 1) (set owners n (owner d (n + 1))) ≡ take (n + 1) d.owners
      owned =
          let back : n + 1 - 1 ≡ n = omega arith in
          let v : owner d (n + 1) ≡ get_or d.owners n 0 = ap (λ m. get_or d.owners m 0) back in
          take_more_set owners n (owner d (n + 1)) (omega (arith, sound.3)) ∙ ap₂ (λ xs y. xs ++ y ∷ []) so.0 v ∙ sym (take_more d.owners n 0 on)

      ranked : (k : ℕ) → k < n + 1 → get_or (set ranks n (rank d (n + 1))) k 0 ≡ rank d (k + 1)
      ranked =
          below_more (λ k. get_or (set ranks n (rank d (n + 1))) k 0 ≡ rank d (k + 1)) n
          (λ k less. let ne : k ≢ n = omega arith in get_or-set_other ranks n k (rank d (n + 1)) 0 ne ∙ so.1 k less)
          (get_or-set_same ranks n (rank d (n + 1)) 0 (omega (arith, sound.3)))

      found : (k : ℕ) → k < n + 1 → get_or (set positions (owner d (n + 1) * 32 + rank d (n + 1)) (n + 1)) (owner d (k + 1) * 32 + rank d (k + 1)) 0 ≡ k + 1
      found =
          below_more (λ k. get_or (set positions (owner d (n + 1) * 32 + rank d (n + 1)) (n + 1)) (owner d (k + 1) * 32 + rank d (k + 1)) 0 ≡ k + 1) n
          (λ k less. get_or-set_other positions (owner d (n + 1) * 32 + rank d (n + 1)) (owner d (k + 1) * 32 + rank d (k + 1)) (n + 1) 0 (apart k less) ∙ so.2 k less)
          (get_or-set_same positions (owner d (n + 1) * 32 + rank d (n + 1)) (n + 1) 0 (omega (arith, cell_low)))

  -- the same with the answers as they were given
  pub places_written : (owners ranks positions : List ℕ) (o r : ℕ) → o ≡ owner d (n + 1) → r ≡ rank d (n + 1) → PlacesTo d owners ranks positions n
      → PlacesTo d (set owners n o) (set ranks n r) (set positions (o * 32 + r) (n + 1)) (n + 1)
  places_written owners ranks positions o r o_is r-is so =
      subst (λ u. PlacesTo d (set owners n u) (set ranks n r) (set positions (u * 32 + r) (n + 1)) (n + 1)) (sym o_is)
      (subst (λ v. PlacesTo d (set owners n (owner d (n + 1))) (set ranks n v) (set positions (owner d (n + 1) * 32 + v) (n + 1)) (n + 1)) (sym r-is) (places_more owners ranks positions so))

-- all positions written
module _ (d : Deal) (owners ranks positions : List ℕ) (n : ℕ) (end : n ≡ extent d) (so : PlacesTo d owners ranks positions n) where
  pub owners_all : OwnersIn d owners
  owners_all = subst (λ m. take m owners ≡ take m d.owners) end so.0 ∙ take_all (extent d) d.owners (omega arith)

  pub ranks_all : RanksIn d ranks
  ranks_all k less = so.1 k (omega arith)

  pub positions_all : PositionsIn d positions
  positions_all b r less =
      let x = some_below_share d b r less in
      let at = position_undone d b r x.0 x.1 in
      let o : owner d x.0 ≡ b = ap (λ p. p.0) at.1 in
      let k : rank d x.0 ≡ r = ap (λ p. p.1) at.1 in
      let back : x.0 - 1 + 1 ≡ x.0 = omega arith in
      let there : get_or positions (owner d x.0 * 32 + rank d x.0) 0 ≡ x.0 = subst (λ m. get_or positions (owner d m * 32 + rank d m) 0 ≡ m) back (so.2 (x.0 - 1) (omega arith)) in
      sym (ap₂ (λ u v. get_or positions (u * 32 + v) 0) o k) ∙ there ∙ sym (ap (λ p. unwrap_or p 0) x.1)
