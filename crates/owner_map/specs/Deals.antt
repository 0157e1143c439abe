-- The laws of every deal, from those of rows of owners.
use Rattle.std.specs.Prelude.{◌≡◌, ℕ, suc, ◌+◌, ◌-◌, ◌<◌, ◌≤◌, List, length, take, Some, None, Option, slice_index, slice_index_or, refl}
use Rattle.std.proofs.Common.{sym, ap, ap₂, ◌∙◌, arith}
use Rattle.std.proofs.lemmas.List.{take_all, length-take, length-take-le, get_or-take}
use Rattle.owner_map.specs.Meaning.{Deal, Sound, Position, extent, owner, rank, place, position, below, share, tally, sum_over}
use Rattle.owner_map.specs.Laws.{PlaceUndone, PositionUndone, RanksWithoutGap, CountsAddUp, PlaceDetermines, CountsGrow, PositionsRise}
use Rattle.owner_map.specs.Tallies.{Standing, tally_le, tally_mono, seek_finds, seek_none, stands, sum_tally}

-- All positions of a board are those in the whole row.
pub share_whole : (d : Deal) (b : ℕ) → share d b ≡ tally b d.owners
share_whole d b = ap (tally b) (take_all (extent d + 1 - 1) d.owners (omega arith))

pub place_undone : (d : Deal) → PlaceUndone d
place_undone d x on =
    let s : 1 + (x - 1) ≡ x = omega arith in
    seek_finds 1 d.owners (x - 1) (owner d x) (omega arith) refl ∙ ap {B = Option ℕ} Some s

-- A board has none from its share on.
pub none_past_share : (d : Deal) (b r : ℕ) → share d b ≤ r → position d b r ≡ None
none_past_share d b r h = seek_none 1 b r d.owners (omega (arith, share_whole d b))

standing : (d : Deal) (b r : ℕ) → r < share d b → Standing b r d.owners
standing d b r h = stands b r d.owners (omega (arith, share_whole d b))

found_at : (d : Deal) (b r : ℕ) (s : Standing b r d.owners) → position d b r ≡ Some (1 + s.0)
found_at d b r s = rw s.3 at (seek_finds 1 d.owners s.0 b s.1 s.2)

-- A board has a position at each rank below its share.
pub some_below_share : (d : Deal) (b r : ℕ) → r < share d b → (x : ℕ) × (position d b r ≡ Some x)
some_below_share d b r h = let s = standing d b r h in (1 + s.0, found_at d b r s)

pub ranks_without_gap : (d : Deal) → RanksWithoutGap d
ranks_without_gap d b r = (some_below_share d b r, none_past_share d b r)

-- A rank at which the board has a position is below its share, and one at which it has none is not.
pub rank_reached : (d : Deal) (b r x : ℕ) → position d b r ≡ Some x → r < share d b
rank_reached d b r x e =
    let none = none_past_share d b r in
    grind arith

pub rank_missed : (d : Deal) (b r : ℕ) → position d b r ≡ None → share d b ≤ r
rank_missed d b r e =
    let some = some_below_share d b r in
    grind arith

pub position_undone : (d : Deal) → PositionUndone d
position_undone d b r x e = reached (rank_reached d b r x e)
  where
    reached : r < share d b → Position d x × (place d x ≡ (b, r))
    reached h =
        let s = standing d b r h in
        let f = found_at d b r s in
        let q : x ≡ 1 + s.0 = cc in
        let i : x - 1 ≡ s.0 = omega arith in
        let o : owner d x ≡ b = ap (λ k. slice_index d.owners k) i ∙ s.2 in
        let t : rank d x ≡ r = ap₂ (λ c k. tally c (take k d.owners)) o i ∙ s.3 in
        ((omega arith, omega arith), λ j. (o j, t j))

-- Below the position of a board and a rank, the board owns as many as the rank.
pub counted_at : (d : Deal) (b r x : ℕ) → position d b r ≡ Some x → below d b x ≡ r
counted_at d b r x e =
    let p = (position_undone d b r x e).1 in
    ap (λ c. below d c x) (sym (ap (λ q. q.0) p)) ∙ ap (λ q. q.1) p

pub counts_add_up : (d : Deal) → Sound d → CountsAddUp d
counts_add_up d sound bound on =
    let row : List ℕ = take (bound - 1) d.owners in
    let l : length row ≡ bound - 1 = length-take-le (bound - 1) d.owners (omega arith) in
    sum_tally d.boards row (each l) ∙ l
  where
    each : length (take (bound - 1) d.owners) ≡ bound - 1 → (i : ℕ) → i < length (take (bound - 1) d.owners) → slice_index (take (bound - 1) d.owners) i < d.boards
    each l i h =
        let within : i < bound - 1 = omega arith in
        let s : suc i - 1 ≡ i = omega arith in
        let o : slice_index_or d.owners (suc i - 1) 0 < d.boards = sound.4 (suc i) (omega arith) in
        rw (get_or-take (bound - 1) d.owners i 0 within) (rw s at o)

pub place_determines : (d : Deal) → PlaceDetermines d
place_determines d x y onx ony e =
    let px = place_undone d x onx in
    let py = place_undone d y ony in
    let same : position d (place d x).0 (place d x).1 ≡ position d (place d y).0 (place d y).1 = ap (λ p. position d p.0 p.1) e in
    cc

pub counts_grow : (d : Deal) → CountsGrow d
counts_grow d b low high h = tally_mono b d.owners (low - 1) (high - 1) (omega arith)

pub positions_rise : (d : Deal) → PositionsRise d
positions_rise d b r s x y h ex ey =
    let cx = counted_at d b r x ex in
    let cy = counted_at d b s y ey in
    let grow = counts_grow d b y x in
    grind arith

-- A position of board b with r of its positions below is the board's position at rank r.
pub found_by : (d : Deal) (b r x : ℕ) → Position d x → owner d x ≡ b → below d b x ≡ r → position d b r ≡ Some x
found_by d b r x on o e =
    let t : rank d x ≡ r = ap (λ c. below d c x) o ∙ e in
    ap₂ (position d) (sym o) (sym t) ∙ place_undone d x on

-- No board owns more positions below a bound than there are in all.
pub below_le : (d : Deal) (b bound : ℕ) → below d b bound ≤ extent d
below_le d b bound =
    omega (arith, tally_le b (take (bound - 1) d.owners), length-take (bound - 1) d.owners)

-- No board has a position at a rank from the number of all positions on.
pub none_past_extent : (d : Deal) (b r : ℕ) → extent d ≤ r → position d b r ≡ None
none_past_extent d b r h = seek_none 1 b r d.owners (omega (arith, tally_le b d.owners))

-- The sum over one board more.
pub sum_over_more : (p : ℕ) (of-board : ℕ → ℕ) → sum_over (p + 1) of-board ≡ sum_over p of-board + of-board p
sum_over_more p of-board = let e : p + 1 ≡ suc p = omega arith in ap (λ q. sum_over q of-board) e
