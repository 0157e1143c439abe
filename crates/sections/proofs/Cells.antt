-- One array dealt out over a grid: its elements, and the places of each board's part.
use Rattle.std.proofs.Common.{◌≡◌, ℕ, zero, suc, ◌+◌, ◌*◌, ◌/◌, ◌%◌, ◌<◌, sym, ap, ◌∙◌, ap₂, mul_comm, mul-zero, div-add-mod', arith}
use Rattle.std.proofs.lemmas.Nat.{mul-add-lt, div-mul-add, mod-mul-add, div_below, mod_below}
use Rattle.owner_map.specs.Meaning.{Deal, Sound, Position, owner, rank, share}
use Rattle.owner_map.specs.Deals.{place_undone, position_undone, place_determines, rank_reached, some_below_share}

-- ranks are below the share of their owner
pub rank_below : (d : Deal) (x : ℕ) → Position d x → rank d x < share d (owner d x)
rank_below d x on = rank_reached d (owner d x) (rank d x) x (place_undone d x on)

wide_some : (h w k : ℕ) → k < h * w → 0 < w
wide_some h zero k l = absurd (omega (arith, mul-zero h))
wide_some h (suc w) k l = omega arith

module _ (R C : Deal) (q s : ℕ) (rows : Sound R) (columns : Sound C) (high : R.boards ≡ q) (wide : C.boards ≡ s) where
  turned : (x y : ℕ) → owner R x + q * owner C y ≡ owner C y * q + owner R x
  turned x y = omega (arith, mul_comm q (owner C y))

  -- the grid row and the grid column of an element's board are its owners
  pub board_row : (x y : ℕ) → Position R x → (owner R x + q * owner C y) % q ≡ owner R x
  board_row x y on = ap (λ n. n % q) (turned x y) ∙ mod-mul-add (owner C y) q (owner R x) (omega (arith, rows.4 x on))

  pub board_column : (x y : ℕ) → Position R x → (owner R x + q * owner C y) / q ≡ owner C y
  board_column x y on = ap (λ n. n / q) (turned x y) ∙ div-mul-add (owner C y) q (owner R x) (omega (arith, rows.4 x on))

  pub board_below : (x y : ℕ) → Position R x → Position C y → owner R x + q * owner C y < q * s
  board_below x y onx ony =
      omega (arith, turned x y, mul-add-lt (owner C y) q (owner R x) s (omega (arith, columns.4 y ony)) (omega (arith, rows.4 x onx)))

  -- how much of the array the board of an element has
  part_of : (x y : ℕ) → Position R x → share R ((owner R x + q * owner C y) % q) * share C ((owner R x + q * owner C y) / q) ≡ share R (owner R x) * share C (owner C y)
  part_of x y on = ap₂ (λ a b. share R a * share C b) (board_row x y on) (board_column x y on)

  pub cell_below : (x y : ℕ) → Position R x → Position C y → rank R x * share C (owner C y) + rank C y < share R ((owner R x + q * owner C y) % q) * share C ((owner R x + q * owner C y) / q)
  cell_below x y onx ony =
      omega (arith, part_of x y onx, mul_comm (share C (owner C y)) (share R (owner R x)), mul-add-lt (rank R x) (share C (owner C y)) (rank C y) (share R (owner R x)) (rank_below R x onx) (rank_below C y ony))

  pub cell_alone : (x y v w : ℕ) → Position R x → Position C y → Position R v → Position C w → owner R x + q * owner C y ≡ owner R v + q * owner C w → rank R x * share C (owner C y) + rank C y ≡ rank R v * share C (owner C w) + rank C w → (x ≡ v) × (y ≡ w)
  cell_alone x y v w onx ony onv onw same at =
      let o : owner R x ≡ owner R v = sym (board_row x y onx) ∙ ap (λ n. n % q) same ∙ board_row v w onv in
      let c : owner C y ≡ owner C w = sym (board_column x y onx) ∙ ap (λ n. n / q) same ∙ board_column v w onv in
      let n : share C (owner C y) ≡ share C (owner C w) = ap (share C) c in
      let at' : rank R x * share C (owner C w) + rank C y ≡ rank R v * share C (owner C w) + rank C w = ap (λ m. rank R x * m + rank C y) (sym n) ∙ at in
      let hy : rank C y < share C (owner C w) = omega (arith, rank_below C y ony) in
      let hw = rank_below C w onw in
      let r : rank R x ≡ rank R v = sym (div-mul-add (rank R x) (share C (owner C w)) (rank C y) hy) ∙ ap (λ m. m / share C (owner C w)) at' ∙ div-mul-add (rank R v) (share C (owner C w)) (rank C w) hw in
      let k : rank C y ≡ rank C w = sym (mod-mul-add (rank R x) (share C (owner C w)) (rank C y) hy) ∙ ap (λ m. m % share C (owner C w)) at' ∙ mod-mul-add (rank R v) (share C (owner C w)) (rank C w) hw in
      (place_determines R x v onx onv (λ i. (o i, r i)), place_determines C y w ony onw (λ i. (c i, k i)))

  pub cell_taken : (p j : ℕ) → j < share R (p % q) * share C (p / q) → (x : ℕ) × (y : ℕ) × (Position R x) × (Position C y) × (owner R x + q * owner C y ≡ p) × (rank R x * share C (owner C y) + rank C y ≡ j)
  cell_taken p j h =
      let w : ℕ = share C (p / q) in
      let some : 0 < w = wide_some (share R (p % q)) w j h in
      let r = some_below_share R (p % q) (j / w) (div_below j w (share R (p % q)) some h) in
      let c = some_below_share C (p / q) (j % w) (mod_below j w some) in
      let at-r = position_undone R (p % q) (j / w) r.0 r.1 in
      let at_c = position_undone C (p / q) (j % w) c.0 c.1 in
      let o : owner R r.0 ≡ p % q = ap (λ z. z.0) at-r.1 in
      let n : rank R r.0 ≡ j / w = ap (λ z. z.1) at-r.1 in
      let oc : owner C c.0 ≡ p / q = ap (λ z. z.0) at_c.1 in
      let nc : rank C c.0 ≡ j % w = ap (λ z. z.1) at_c.1 in
      let e : owner R r.0 + q * owner C c.0 ≡ p % q + q * (p / q) = ap₂ (λ a b. a + q * b) o oc in
      let f : rank R r.0 * share C (owner C c.0) ≡ j / w * w = ap₂ (λ a b. a * share C b) n oc in
      (r.0, c.0, at-r.0, at_c.0, omega (arith, div-add-mod' p q, mul_comm q (p / q)), omega (arith, div-add-mod' j w))
