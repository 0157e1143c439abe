-- The place of an element is its index in the list of all elements, section by section.
use Rattle.std.proofs.Common.{◌≡◌, ℕ, zero, suc, ◌+◌, ◌*◌, ◌/◌, ◌%◌, ◌<◌, List, [], ◌∷◌, ◌++◌, length, get_or, unwrap_or, sym, refl, ap, ◌∙◌, ap₂, suc-mul, zero-mul, arith}
use Rattle.std.specs.List.{range_with_len, flat_map}
use Rattle.std.proofs.lemmas.List.FromFn.{length-map-range_with_len, get_or-map-range_with_len}
use Rattle.std.proofs.lemmas.List.{length-append, length-map, get_or_append_left, get_or-append-add, get_or-map}
use Rattle.nest.specs.declared.terms.Array.{Array}
use Rattle.nest.specs.declared.terms.Grid.{Grid}
use Rattle.layout.specs.Places.{IsElement}
use Rattle.owner_map.specs.Meaning.{Deal, Position, position, owner, rank, share, sum_over}
use Rattle.owner_map.specs.Deals.{place_undone}
use Rattle.sections.specs.Order.{Element, owned_by, row_list, part_list, section_list, section_order, PlaceIsIndex}
use Rattle.sections.specs.Sections.{EachSound, Deals, Fits, rows_of, columns_of, board_of, part_size, part_start, section_size, cell_of, section_of}
use Rattle.sections.proofs.Cells.{rank_below, board_row, board_column}
use Rattle.sections.proofs.SectionPlaces.{row_on, column_on, rows_sound, columns_sound, here, within_part, within_section, on_board, section_split, sections_total}
use Rattle.sections.proofs.Sums.{sum_like, sum_first}

-- lists of known lengths, one after the other
module _ {X : Type 0} (f : ℕ → List X) (size : ℕ → ℕ) (sized : (i : ℕ) → length (f i) ≡ size i) where
  shifted : (a n : ℕ) → sum_over n (λ i. size (a + suc i)) ≡ sum_over n (λ i. size (a + 1 + i))
  shifted a n = sum_like (λ i. size (a + suc i)) (λ i. size (a + 1 + i)) n (λ i h. ap size (omega arith))

  first_size : (a n : ℕ) → sum_over (suc n) (λ i. size (a + i)) ≡ size a + sum_over n (λ i. size (a + 1 + i))
  first_size a n =
      let z : size (a + 0) ≡ size a = ap size (omega arith) in
      omega (arith, sum_first (λ i. size (a + i)) n, shifted a n)

  pub length_joined : (a n : ℕ) → length (flat_map f (range_with_len a n)) ≡ sum_over n (λ i. size (a + i))
  length_joined a zero = refl
  length_joined a (suc n) =
      omega (arith, length-append (f a) (flat_map f (range_with_len (a + 1) n)), sized a, length_joined (a + 1) n, first_size a n)

  joined_at : (a n i j : ℕ) (d : X) → i < n → j < size (a + i) → get_or (flat_map f (range_with_len a n)) (sum_over i (λ k. size (a + k)) + j) d ≡ get_or (f (a + i)) j d
  joined_at a zero i j d h l = absurd (omega arith)
  joined_at a (suc n) zero j d h l =
      let z : a ≡ a + 0 = omega arith in
      let k : 0 + j ≡ j = omega arith in
      let s : size (a + 0) ≡ size a = ap size (sym z) in
      ap (λ m. get_or (f a ++ flat_map f (range_with_len (a + 1) n)) m d) k ∙ get_or_append_left (f a) (flat_map f (range_with_len (a + 1) n)) d j (omega (arith, sized a)) ∙ ap (λ b. get_or (f b) j d) z
  joined_at a (suc n) (suc i) j d h l =
      let b : a + 1 + i ≡ a + suc i = omega arith in
      let s : size (a + 1 + i) ≡ size (a + suc i) = ap size b in
      let k : sum_over (suc i) (λ k. size (a + k)) + j ≡ length (f a) + (sum_over i (λ k. size (a + 1 + k)) + j) = omega (arith, first_size a i, sized a) in
      ap (λ m. get_or (f a ++ flat_map f (range_with_len (a + 1) n)) m d) k ∙ get_or-append-add (f a) (flat_map f (range_with_len (a + 1) n)) _ d ∙ joined_at (a + 1) n i j d (omega arith) (omega arith) ∙ ap (λ m. get_or (f m) j d) b

-- rows of one width, one after the other
module _ {X : Type 0} (f : ℕ → List X) (w : ℕ) (wide : (x : ℕ) → length (f x) ≡ w) where
  rows_length : (xs : List ℕ) → length (flat_map f xs) ≡ length xs * w
  rows_length [] = sym (zero-mul w)
  rows_length (x ∷ xs) = omega (arith, length-append (f x) (flat_map f xs), wide x, rows_length xs, suc-mul (length xs) w)

  rows_at : (xs : List ℕ) (r c : ℕ) (d : X) → r < length xs → c < w → get_or (flat_map f xs) (r * w + c) d ≡ get_or (f (get_or xs r 0)) c d
  rows_at [] r c d h l = absurd (omega arith)
  rows_at (x ∷ xs) zero c d h l =
      let k : zero * w + c ≡ c = omega (arith, zero-mul w) in
      ap (λ m. get_or (f x ++ flat_map f xs) m d) k ∙ get_or_append_left (f x) (flat_map f xs) d c (omega (arith, wide x))
  rows_at (x ∷ xs) (suc r) c d h l =
      let k : suc r * w + c ≡ length (f x) + (r * w + c) = omega (arith, suc-mul r w, wide x) in
      ap (λ m. get_or (f x ++ flat_map f xs) m d) k ∙ get_or-append-add (f x) (flat_map f xs) _ d ∙ rows_at xs r c d (omega arith) l

owned_length : (d : Deal) (b : ℕ) → length (owned_by d b) ≡ share d b
owned_length d b = length-map-range_with_len (λ r. unwrap_or (position d b r) 0) 0 (share d b)

-- a position stands at its rank among those of its owner
owned_at : (d : Deal) (x : ℕ) → Position d x → get_or (owned_by d (owner d x)) (rank d x) 0 ≡ x
owned_at d x on =
    get_or-map-range_with_len (λ r. unwrap_or (position d (owner d x) r) 0) 0 (share d (owner d x)) (rank d x) (rank d x) 0 (rank_below d x on) (omega arith)
    ∙ ap (λ p. unwrap_or p 0) (place_undone d x on)

-- the same, counted from 0
module _ {X : Type 0} (f : ℕ → List X) (size : ℕ → ℕ) (sized : (i : ℕ) → length (f i) ≡ size i) where
  from_zero : (n : ℕ) → sum_over n (λ i. size (0 + i)) ≡ sum_over n size
  from_zero n = sum_like (λ i. size (0 + i)) size n (λ i h. ap size (omega arith))

  length_all : (n : ℕ) → length (flat_map f (range_with_len 0 n)) ≡ sum_over n size
  length_all n = length_joined f size sized 0 n ∙ from_zero n

  all_at : (n i j : ℕ) (d : X) → i < n → j < size i → get_or (flat_map f (range_with_len 0 n)) (sum_over i size + j) d ≡ get_or (f i) j d
  all_at n i j d h l =
      let z : 0 + i ≡ i = omega arith in
      let s : size (0 + i) ≡ size i = ap size z in
      ap (λ m. get_or (flat_map f (range_with_len 0 n)) (m + j) d) (sym (from_zero i)) ∙ joined_at f size sized 0 n i j d h (omega arith) ∙ ap (λ m. get_or (f m) j d) z

module _ (C : Deal) (b t : ℕ) where
  row_length : (x : ℕ) → length (row_list C b t x) ≡ share C b
  row_length x = length-map {B = Element} (owned_by C b) (λ y. (t, x, y)) ∙ owned_length C b

  -- the part of board row a and board column b
  part_length : (R : Deal) (a : ℕ) → length (flat_map (row_list C b t) (owned_by R a)) ≡ share R a * share C b
  part_length R a = rows_length (row_list C b t) (share C b) row_length (owned_by R a) ∙ ap (λ n. n * share C b) (owned_length R a)

part_at : (R C : Deal) (t x y : ℕ) (d : Element) → Position R x → Position C y → get_or (flat_map (row_list C (owner C y) t) (owned_by R (owner R x))) (rank R x * share C (owner C y) + rank C y) d ≡ (t, x, y)
part_at R C t x y d onx ony =
    rows_at (row_list C (owner C y) t) (share C (owner C y)) (row_length C (owner C y) t) (owned_by R (owner R x)) (rank R x) (rank C y) d (omega (arith, owned_length R (owner R x), rank_below R x onx)) (rank_below C y ony)
    ∙ ap (λ z. get_or (row_list C (owner C y) t z) (rank C y) d) (owned_at R x onx)
    ∙ get_or-map {Y = Element} (λ w. (t, x, w)) (owned_by C (owner C y)) (rank C y) 0 d (omega (arith, owned_length C (owner C y), rank_below C y ony))
    ∙ ap {B = Element} (λ w. (t, x, w)) (owned_at C y ony)

module _ (grid : Grid) (arrays : List Array) (deals : Deals) (fit : Fits grid arrays deals) (sound : EachSound deals) where
  sized_part : (p t : ℕ) → length (part_list grid.rows deals p t) ≡ part_size grid.rows deals p t
  sized_part p t = part_length (columns_of deals t) (p / grid.rows) t (rows_of deals t) (p % grid.rows)

  sized_section : (p : ℕ) → length (section_list grid.rows deals p) ≡ section_size grid.rows deals p
  sized_section p = length_all (part_list grid.rows deals p) (part_size grid.rows deals p) (sized_part p) (length deals.rows)

  element_at : (t x y : ℕ) (d : Element) → IsElement arrays t x y → get_or (section_order grid deals) (section_of grid.rows deals t x y) d ≡ (t, x, y)
  element_at t x y d e =
      let q : ℕ = grid.rows in
      let p : ℕ = board_of q deals t x y in
      let h : t < length arrays = here grid arrays deals fit sound t x y e in
      let f = fit.2 t h in
      let onx = row_on grid arrays deals fit sound t x y e in
      let ony = column_on grid arrays deals fit sound t x y e in
      let row = board_row (rows_of deals t) (columns_of deals t) q grid.columns (rows_sound grid arrays deals fit sound t h) (columns_sound grid arrays deals fit sound t h) f.0.0 f.1.0 x y onx in
      let column = board_column (rows_of deals t) (columns_of deals t) q grid.columns (rows_sound grid arrays deals fit sound t h) (columns_sound grid arrays deals fit sound t h) f.0.0 f.1.0 x y onx in
      ap (λ k. get_or (section_order grid deals) k d) (section_split grid arrays deals fit sound t x y e)
      ∙ all_at (section_list q deals) (section_size q deals) sized_section (q * grid.columns) p (part_start q deals p t + cell_of deals t x y) d (on_board grid arrays deals fit sound t x y e) (within_section grid arrays deals fit sound t x y e)
      ∙ all_at (part_list q deals p) (part_size q deals p) (sized_part p) (length deals.rows) t (cell_of deals t x y) d (omega (arith, fit.0)) (within_part grid arrays deals fit sound t x y e)
      ∙ ap₂ (λ a b. get_or (flat_map (row_list (columns_of deals t) b t) (owned_by (rows_of deals t) a)) (cell_of deals t x y) d) row column
      ∙ part_at (rows_of deals t) (columns_of deals t) t x y d onx ony

  pub place_is_index : PlaceIsIndex grid arrays deals
  place_is_index =
      (length_all (section_list grid.rows deals) (section_size grid.rows deals) sized_section (grid.rows * grid.columns) ∙ sections_total grid arrays deals fit sound, element_at)
