-- Elements and places in the section buffer match one to one.
use Rattle.std.proofs.Common.{◌≡◌, ℕ, ◌+◌, ◌-◌, ◌*◌, ◌<◌, List, [], ◌∷◌, length, sym, refl, ap, ◌∙◌, subst, ap₂, arith}
use Rattle.nest.specs.declared.terms.Array.{Array}
use Rattle.nest.specs.declared.terms.Grid.{Grid}
use Rattle.layout.specs.Places.{size_of, total, IsElement, array_at}
use Rattle.layout.proofs.Starts.{element_here, element_there}
use Rattle.owner_map.specs.Meaning.{Deal, Sound, Position, extent, share, sum_over}
use Rattle.owner_map.specs.Deals.{counts_add_up}
use Rattle.sections.specs.Sections.{EachSound, Deals, Fits, rows_of, columns_of, board_of, part_size, part_start, section_size, section_start, cell_of, section_of}
use Rattle.sections.specs.SectionLaws.{SectionBelow, SectionAlone, SectionTaken, OneSectionEach}
use Rattle.sections.proofs.Cells.{board_below, cell_below, cell_alone, cell_taken}
use Rattle.sections.proofs.Sums.{sum_like, sum_first, sum_swap, sum_grid, sum_below, sum_alone, sum_taken}

-- the shares of all boards make up the whole dimension
shares : (d : Deal) (boards size : ℕ) → Sound d → d.boards ≡ boards → extent d ≡ size → sum_over boards (share d) ≡ size
shares d boards size sound b e =
    let s : sum_over d.boards (share d) ≡ extent d + 1 - 1 = counts_add_up d sound (extent d + 1) (omega arith, omega arith) in
    let t : sum_over d.boards (share d) ≡ sum_over boards (share d) = ap (λ n. sum_over n (share d)) b in
    omega arith

total_sum : (arrays : List Array) → sum_over (length arrays) (λ t. size_of (array_at arrays t)) ≡ total arrays
total_sum [] = refl
total_sum (a ∷ arrays) = sum_first (λ t. size_of (array_at (a ∷ arrays) t)) (length arrays) ∙ ap (λ n. size_of a + n) (total_sum arrays)

module _ (grid : Grid) (arrays : List Array) (deals : Deals) (fit : Fits grid arrays deals) (sound : EachSound deals) where
  pub rows_sound : (t : ℕ) → t < length arrays → Sound (rows_of deals t)
  rows_sound t h = sound.0 t (omega (arith, fit.0))

  pub columns_sound : (t : ℕ) → t < length arrays → Sound (columns_of deals t)
  columns_sound t h = sound.1 t (omega (arith, fit.1))

  -- rows and columns of an element are positions of the deals
  pub row_on : (t x y : ℕ) → IsElement arrays t x y → Position (rows_of deals t) x
  row_on t x y e = let h = element_here arrays t x y e in let f = (fit.2 t h.0).0 in (h.1, omega arith)

  pub column_on : (t x y : ℕ) → IsElement arrays t x y → Position (columns_of deals t) y
  column_on t x y e = let h = element_here arrays t x y e in let f = (fit.2 t h.0).1 in (h.3, omega arith)

  -- the sections together have as many places as there are elements
  pub sections_total : sum_over (grid.rows * grid.columns) (section_size grid.rows deals) ≡ total arrays
  sections_total =
      ap (λ n. sum_over boards (λ p. sum_over n (part_size grid.rows deals p))) fit.0
      ∙ sum_swap (part_size grid.rows deals) boards (length arrays)
      ∙ sum_like (λ t. sum_over boards (λ p. part_size grid.rows deals p t)) (λ t. size_of (array_at arrays t)) (length arrays) array
      ∙ total_sum arrays
    where
      boards : ℕ
      boards = grid.rows * grid.columns

      array : (t : ℕ) → t < length arrays → sum_over (grid.rows * grid.columns) (λ p. part_size grid.rows deals p t) ≡ size_of (array_at arrays t)
      array t h =
          let f = fit.2 t h in
          sum_grid (share (rows_of deals t)) (share (columns_of deals t)) grid.rows grid.columns
          ∙ ap₂ (λ a b. a * b) (shares (rows_of deals t) _ _ (rows_sound t h) f.0.0 f.0.1) (shares (columns_of deals t) _ _ (columns_sound t h) f.1.0 f.1.1)

  module _ (t x y : ℕ) (e : IsElement arrays t x y) where
    pub here : t < length arrays
    here = (element_here arrays t x y e).0

    -- an element lies inside its board's part of its array
    pub within_part : cell_of deals t x y < part_size grid.rows deals (board_of grid.rows deals t x y) t
    within_part =
        let f = fit.2 t here in
        cell_below (rows_of deals t) (columns_of deals t) grid.rows grid.columns (rows_sound t here) (columns_sound t here) f.0.0 f.1.0 x y (row_on t x y e) (column_on t x y e)

    -- and so inside its board's section
    pub within_section : part_start grid.rows deals (board_of grid.rows deals t x y) t + cell_of deals t x y < section_size grid.rows deals (board_of grid.rows deals t x y)
    within_section =
        sum_below (part_size grid.rows deals (board_of grid.rows deals t x y)) t (length deals.rows) (cell_of deals t x y) (omega (arith, here, fit.0)) within_part

    pub on_board : board_of grid.rows deals t x y < grid.rows * grid.columns
    on_board =
        let f = fit.2 t here in
        board_below (rows_of deals t) (columns_of deals t) grid.rows grid.columns (rows_sound t here) (columns_sound t here) f.0.0 f.1.0 x y (row_on t x y e) (column_on t x y e)

    pub section_split : section_of grid.rows deals t x y ≡ section_start grid.rows deals (board_of grid.rows deals t x y) + (part_start grid.rows deals (board_of grid.rows deals t x y) t + cell_of deals t x y)
    unfolding section_of
    section_split = omega arith

  pub section_below : SectionBelow grid.rows arrays deals
  section_below t x y e =
      omega (arith, section_split t x y e, sections_total, sum_below (section_size grid.rows deals) (board_of grid.rows deals t x y) (grid.rows * grid.columns) _ (on_board t x y e) (within_section t x y e))

  pub section_alone : SectionAlone grid.rows arrays deals
  section_alone t x y u v w e f same =
      let q : ℕ = grid.rows in
      let b = sum_alone (section_size q deals) (board_of q deals t x y) (board_of q deals u v w) _ _ (within_section t x y e) (within_section u v w f) (sym (section_split t x y e) ∙ same ∙ section_split u v w f) in
      let moved : cell_of deals u v w < part_size q deals (board_of q deals t x y) u = subst (λ p. cell_of deals u v w < part_size q deals p u) (sym b.0) (within_part u v w f) in
      let same' : part_start q deals (board_of q deals t x y) t + cell_of deals t x y ≡ part_start q deals (board_of q deals t x y) u + cell_of deals u v w = b.1 ∙ ap (λ p. part_start q deals p u + cell_of deals u v w) (sym b.0) in
      let a = sum_alone (part_size q deals (board_of q deals t x y)) t u _ _ (within_part t x y e) moved same' in
      let c = in_one a.0 b.0 a.1 in
      (a.0, c.0, c.1)
    where
      in_one : t ≡ u → board_of grid.rows deals t x y ≡ board_of grid.rows deals u v w → cell_of deals t x y ≡ cell_of deals u v w → (x ≡ v) × (y ≡ w)
      in_one tu =
          let f' : IsElement arrays t v w = subst (λ n. IsElement arrays n v w) (sym tu) f in
          let h : t < length arrays = here t x y e in
          let m = fit.2 t h in
          let one = cell_alone (rows_of deals t) (columns_of deals t) grid.rows grid.columns (rows_sound t h) (columns_sound t h) m.0.0 m.1.0 x y v w (row_on t x y e) (column_on t x y e) (row_on t v w f') (column_on t v w f') in
          subst (λ n. board_of grid.rows deals t x y ≡ board_of grid.rows deals n v w → cell_of deals t x y ≡ cell_of deals n v w → (x ≡ v) × (y ≡ w)) tu one

  pub section_taken : SectionTaken grid.rows arrays deals
  section_taken k l =
      let q : ℕ = grid.rows in
      let b = sum_taken (section_size q deals) (q * grid.columns) k (omega (arith, sections_total)) in
      let a = sum_taken (part_size q deals b.0) (length deals.rows) b.1 b.3 in
      let h : a.0 < length arrays = omega (arith, fit.0) in
      let m = fit.2 a.0 h in
      let c = cell_taken (rows_of deals a.0) (columns_of deals a.0) q grid.columns (rows_sound a.0 h) (columns_sound a.0 h) m.0.0 m.1.0 b.0 a.1 a.3 in
      let e : IsElement arrays a.0 c.0 c.1 = element_there arrays a.0 c.0 c.1 h c.2.0 (omega arith) c.3.0 (omega arith) in
      let on : section_start q deals (board_of q deals a.0 c.0 c.1) + part_start q deals (board_of q deals a.0 c.0 c.1) a.0 ≡ section_start q deals b.0 + part_start q deals b.0 a.0 = ap (λ p. section_start q deals p + part_start q deals p a.0) c.4 in
      (a.0, c.0, c.1, e, omega (arith, section_split a.0 c.0 c.1 e))

  pub one_section_each : OneSectionEach grid.rows arrays deals
  one_section_each = (section_below, section_alone, section_taken)
