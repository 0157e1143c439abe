-- A deal's answers, read from rows.
use Rattle.std.proofs.Common.{◌≡◌, ℕ, ◌+◌, ◌*◌, ◌<◌, ◌≤◌, ◌==◌, List, length, count_by, get_or, take, Option, Result, Ok, Err, Some, None, unwrap_or, sym, ap, ◌∙◌, ⊎_elim, arith}
use Rattle.std.proofs.lemmas.List.{length-take-le}
use Rattle.std.proofs.lemmas.List.Sums.{count_by-le-length}
use Rattle.std.proofs.lemmas.Bool.{cases_order}
use Rattle.std.specs.Result.{result_ok}
use Rattle.owner_map.specs.declared.refusal.Refusal.{Refusal}
use Rattle.owner_map.specs.Answer.{Placed, Found}
use Rattle.owner_map.specs.Listed.{listed}
use Rattle.owner_map.specs.Meaning.{Deal, Sound, Position, extent, owner, share, place, position}
use Rattle.owner_map.specs.Deals.{below_le, some_below_share, none_past_share, position_undone}
use Rattle.sections.specs.MapRows.{PositionsIn}

-- a board stands in a row no more often than the row is long
pub seldom : (b : ℕ) (row : List ℕ) → count_by (λ o. o == b) row ≤ length row
seldom b row = count_by-le-length (λ o. o == b) row

-- how far the written owners go
pub extent_is : (boards size : ℕ) (owners : List ℕ) → size ≤ 32 → length owners ≡ 32 → extent (listed boards (take size owners)) ≡ size
extent_is boards size owners fits room = length-take-le size owners (omega arith)

-- a share is no larger than the dimension
pub share_small : (d : Deal) → Sound d → (b : ℕ) → share d b ≤ 32
share_small d sound b = omega (arith, below_le d b (extent d + 1), sound.3)

-- a board that the deal has not owns nothing
stranger : (d : Deal) → Sound d → (b r : ℕ) → d.boards ≤ b → position d b r ≡ None
stranger d sound b r out =
    ⊎_elim (λ same. none_past_share d b r (omega arith)) (⊎_elim (λ less. absurd (never less)) (λ more. none_past_share d b r (omega arith))) (cases_order r (share d b))
  where
    never : r < share d b → ⊥
    never less =
        let x = some_below_share d b r less in
        let at = position_undone d b r x.0 x.1 in
        let o : owner d x.0 ≡ b = ap (λ p. p.0) at.1 in
        omega (arith, sound.4 x.0 at.0)

pub positioned : (d : Deal) (positions : List ℕ) → PositionsIn d positions → (b r : ℕ) → r < share d b → Some (get_or positions (b * 32 + r) 0) ≡ position d b r
positioned d positions all b r less =
    let x = some_below_share d b r less in
    let v : get_or positions (b * 32 + r) 0 ≡ x.0 = all b r less ∙ ap (λ o. unwrap_or o 0) x.1 in
    ap Some v ∙ sym x.1

-- what a map answered that gave a place, and one that refused a board
pub placed_at : (d : Deal) (x : ℕ) (r : Result (ℕ × ℕ) Refusal) (p : ℕ × ℕ) → Placed d x r → result_ok r ≡ Some p → Position d x × (p ≡ place d x)
placed_at d x (Ok q) p answer is = let same : p ≡ q = cc in (answer.0, same ∙ answer.1)
placed_at d x (Err e) p answer is = cc

pub refused_board : (d : Deal) → Sound d → (b n : ℕ) (r : Result (Option ℕ) Refusal) → Found d b n r → result_ok r ≡ None → position d b n ≡ None
refused_board d sound b n (Ok q) answer is = cc
refused_board d sound b n (Err e) answer is = stranger d sound b n (omega (arith, answer.0))
