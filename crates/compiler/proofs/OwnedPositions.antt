-- The positions that a board has at successive ranks, as the positions that it owns in a range. Assumes nothing.
use Rattle.std.proofs.Common.{◌≡◌, ℕ, zero, suc, ◌+◌, ◌-◌, ◌≤◌, Bool, true, false, cond, eqb, List, ◌∷◌, map, take, Some, filter, Option, sym, refl, ap, ◌∙◌, ap₂, arith}
use Rattle.std.specs.List.{range_with_len}
use Rattle.std.proofs.lemmas.Bool.{cond-true, cond-false, eqb-true}
use Rattle.owner_map.specs.Meaning.{Deal, extent, owner, below, position, tally}
use Rattle.owner_map.specs.Tallies.{tally_more}
use Rattle.owner_map.specs.Deals.{found_by, counts_grow}

-- one position more adds one to what its owner has below
pub below_more : (d : Deal) (b x : ℕ) → 1 ≤ x → x ≤ extent d → below d b (x + 1) ≡ below d b x + cond (eqb (owner d x) b) 1 0
below_more d b x low high =
    let s : x + 1 - 1 ≡ x - 1 + 1 = omega arith in
    ap (λ k. tally b (take k d.owners)) s ∙ tally_more b d.owners (x - 1) (omega arith)

-- what board b has at the ranks from the number of its positions below one bound up to the number below another
abbrev pub held_between : Deal → ℕ → ℕ → ℕ → List (Option ℕ)
held_between d b low high = map (position d b) (range_with_len (below d b low) (below d b high - below d b low))

-- the first of the ranks, where the board owns the first position
held_first : (d : Deal) (b low bound : ℕ) → 1 ≤ low → low ≤ extent d → low + 1 ≤ bound → eqb (owner d low) b ≡ true → held_between d b low bound ≡ Some low ∷ held_between d b (low + 1) bound
held_first d b low bound l h m e =
    let one : ◌≡◌ {A = ℕ} (cond (eqb (owner d low) b) 1 0) 1 = cond-true (eqb (owner d low) b) 1 0 e in
    let next : below d b low + 1 ≡ below d b (low + 1) = omega (arith, below_more d b low l h) in
    let grow = counts_grow d b (low + 1) bound m in
    let count : below d b bound - below d b low ≡ suc (below d b bound - below d b (low + 1)) = omega arith in
    let found = found_by d b (below d b low) low (l, h) (eqb-true (owner d low) b e) refl in
    let k : ℕ = below d b bound - below d b (low + 1) in
    ap (λ n. map (position d b) (range_with_len (below d b low) n)) count
    ∙ ap₂ {A = Option ℕ} {C = List (Option ℕ)} (λ o r. o ∷ map (position d b) (range_with_len r k)) found next

-- where another owns it
held_other : (d : Deal) (b low bound : ℕ) → 1 ≤ low → low ≤ extent d → eqb (owner d low) b ≡ false → held_between d b low bound ≡ held_between d b (low + 1) bound
held_other d b low bound l h e =
    let none : ◌≡◌ {A = ℕ} (cond (eqb (owner d low) b) 1 0) 0 = cond-false (eqb (owner d low) b) 1 0 e in
    let same : below d b low ≡ below d b (low + 1) = omega (arith, below_more d b low l h) in
    ap (λ r. map (position d b) (range_with_len r (below d b bound - r))) same

-- the positions from low on, n of them, that board b owns
abbrev pub owned_from : Deal → ℕ → ℕ → ℕ → List ℕ
owned_from d b low n = filter (λ x. eqb (owner d x) b) (range_with_len low n)

-- the board has the positions that it owns in between, in order
pub held_is_owned : (d : Deal) (b low n : ℕ) → 1 ≤ low → low + n ≤ extent d + 1 → held_between d b low (low + n) ≡ map Some (owned_from d b low n)
held_is_owned d b low zero l h =
    let e : low + 0 ≡ low = omega arith in
    let f = ap (below d b) e in
    let z : below d b (low + 0) - below d b low ≡ 0 = omega arith in
    ap (λ n. map (position d b) (range_with_len (below d b low) n)) z
held_is_owned d b low (suc n) l h =
    let e : low + suc n ≡ low + 1 + n = omega arith in
    ap (held_between d b low) e ∙ step (eqb (owner d low) b) refl (held_is_owned d b (low + 1) n (omega arith) (omega arith))
  where
    step : (hit : Bool) → eqb (owner d low) b ≡ hit → held_between d b (low + 1) (low + 1 + n) ≡ map Some (owned_from d b (low + 1) n)
        → held_between d b low (low + 1 + n) ≡ map Some (cond (eqb (owner d low) b) (low ∷ owned_from d b (low + 1) n) (owned_from d b (low + 1) n))
    step true e ih =
        held_first d b low (low + 1 + n) l (omega arith) (omega arith) e ∙ ap {B = List (Option ℕ)} (λ r. Some low ∷ r) ih
        ∙ ap {B = List (Option ℕ)} (map Some) (sym (cond-true (eqb (owner d low) b) (low ∷ owned_from d b (low + 1) n) (owned_from d b (low + 1) n) e))
    step false e ih =
        held_other d b low (low + 1 + n) l (omega arith) e ∙ ih
        ∙ ap {B = List (Option ℕ)} (map Some) (sym (cond-false (eqb (owner d low) b) (low ∷ owned_from d b (low + 1) n) (owned_from d b (low + 1) n) e))
