-- The place of an element that is dealt out.
use Rattle.std.proofs.Common.{◌≡◌, ℕ, ◌+◌, ◌*◌, ◌/◌, ◌%◌, ◌<◌, List, length, get_or, take, sym, ap, ◌∙◌, subst, ap₂, arith}
use Rattle.std.proofs.lemmas.List.{length-map, length-take-le}
use Rattle.nest.specs.declared.terms.Array.{Array}
use Rattle.nest.specs.declared.terms.Grid.{Grid}
use Rattle.layout.specs.Places.{IsElement}
use Rattle.layout.proofs.Starts.{element_here, element_there}
use Rattle.owner_map.specs.Meaning.{Deal, Sound, Position, place, owner, rank, share}
use Rattle.sections.specs.Holdings.{DealtElement, SameShape, OverGrid, PartsBegin, PartsLow}
use Rattle.sections.specs.declared.dealt.Dealt.{Dealt}
use Rattle.sections.specs.declared.map_table.MapTable.{MapTable}
use Rattle.sections.specs.Dealings.{deals_of}
use Rattle.sections.specs.MapTables.{tabled}
use Rattle.sections.specs.Sections.{EachSound, Deals, Fits, rows_of, columns_of, board_of, part_at, part_size, section_of}
use Rattle.sections.proofs.Cells.{board_below, cell_below}
use Rattle.sections.proofs.MapsFit.{maps_sound}

module _ (grid : Grid) (deals : Deals) (t x y : ℕ) (R C : Deal) (R-is : R ≡ rows_of deals t) (C-is : C ≡ columns_of deals t) (on : t < length deals.rows) (sr : Sound R) (sc : Sound C) (over : OverGrid grid deals) (px : Position R x) (py : Position C y) where
  pub element : DealtElement deals t x y
  element = (on, subst (λ d. Position d x) R-is px, subst (λ d. Position d y) C-is py)

  high : R.boards ≡ grid.rows
  high = ap (λ d. d.boards) R-is ∙ (over t on).0

  wide : C.boards ≡ grid.columns
  wide = ap (λ d. d.boards) C-is ∙ (over t on).1

  module _ (o n p m : ℕ) (o_is : o ≡ owner R x) (n-is : n ≡ rank R x) (p-is : p ≡ owner C y) (m-is : m ≡ rank C y) where
    pub board_is : o + grid.rows * p ≡ board_of grid.rows deals t x y
    board_is = ap₂ (λ a b. a + grid.rows * b) (o_is ∙ ap (λ d. owner d x) R-is) (p-is ∙ ap (λ d. owner d y) C-is)

    same_board : o + grid.rows * p ≡ owner R x + grid.rows * owner C y
    same_board = ap₂ (λ a b. a + grid.rows * b) o_is p-is

    pub board_low : o + grid.rows * p < grid.rows * grid.columns
    board_low = omega (arith, same_board, board_below R C grid.rows grid.columns sr sc high wide x y px py)

    pub owner_in : p < C.boards
    owner_in = omega (arith, sc.4 y py)

    module _ (starts : List ℕ) (begun : PartsBegin grid deals starts) (w : ℕ) (w-is : w ≡ share C p) where
      cell_is : n * w + m ≡ rank R x * share C (owner C y) + rank C y
      cell_is = ap₂ (λ a b. a + b) (ap₂ (λ a b. a * b) n-is (w-is ∙ ap (share C) p-is)) m-is

      pub found : get_or starts ((o + grid.rows * p) * 4 + t) 0 + n * w + m ≡ section_of grid.rows deals t x y
      unfolding section_of
      found =
          let start = begun (o + grid.rows * p) t (board_low, on) in
          let at : part_at grid.rows deals (o + grid.rows * p) t ≡ part_at grid.rows deals (board_of grid.rows deals t x y) t = ap (λ b. part_at grid.rows deals b t) board_is in
          let cell : rank R x * share C (owner C y) + rank C y ≡ rank (rows_of deals t) x * share (columns_of deals t) (owner (columns_of deals t) y) + rank (columns_of deals t) y = ap₂ (λ d e. rank d x * share e (owner e y) + rank e y) R-is C-is in
          omega (arith, cell_is)

      found_low : PartsLow grid deals → get_or starts ((o + grid.rows * p) * 4 + t) 0 + n * w + m < 4096
      found_low low =
          let q : ℕ = grid.rows in
          let start = begun (o + q * p) t (board_low, on) in
          let end = low (o + q * p) t (board_low, on) in
          let size : share R ((owner R x + q * owner C y) % q) * share C ((owner R x + q * owner C y) / q) ≡ part_size q deals (o + q * p) t = ap₂ (λ d e. share d ((owner R x + q * owner C y) % q) * share e ((owner R x + q * owner C y) / q)) R-is C-is ∙ ap (λ b. part_size q deals b t) (sym same_board) in
          omega (arith, cell_is, cell_below R C q grid.columns sr sc high wide x y px py)

-- there are at most four arrays
pub array_few : (d : Dealt) (t : ℕ) → t < length (deals_of d).rows → t < 4
array_few d t on = omega (arith, length-map (take d.count d.rows) tabled, length-take-le d.count d.rows (omega arith))

-- what the written answers of array t say
module _ (d : Dealt) (t x y : ℕ) (r c : MapTable) (on : (t < length (deals_of d).rows) × (tabled r ≡ rows_of (deals_of d) t)) (beside : tabled c ≡ columns_of (deals_of d) t) (o n p m : ℕ) (row : Position (tabled r) x × ((o, n) ≡ place (tabled r) x)) (column : Position (tabled c) y × ((p, m) ≡ place (tabled c) y)) where
  pub is_element : DealtElement (deals_of d) t x y
  is_element = element d.grid (deals_of d) t x y (tabled r) (tabled c) on.1 beside on.0 r.sound c.sound d.over row.0 column.0

  pub on_board : o + d.grid.rows * p ≡ board_of d.grid.rows (deals_of d) t x y
  on_board = board_is d.grid (deals_of d) t x y (tabled r) (tabled c) on.1 beside on.0 r.sound c.sound d.over row.0 column.0 o n p m (ap (λ z. z.0) row.1) (ap (λ z. z.1) row.1) (ap (λ z. z.0) column.1) (ap (λ z. z.1) column.1)

  pub few_boards : o + d.grid.rows * p < 8
  few_boards = omega (arith, board_low d.grid (deals_of d) t x y (tabled r) (tabled c) on.1 beside on.0 r.sound c.sound d.over row.0 column.0 o n p m (ap (λ z. z.0) row.1) (ap (λ z. z.1) row.1) (ap (λ z. z.0) column.1) (ap (λ z. z.1) column.1), d.boards)

  module _ (w : ℕ) (is : w ≡ share (tabled c) p) where
    pub on_place : get_or d.starts ((o + d.grid.rows * p) * 4 + t) 0 + n * w + m ≡ section_of d.grid.rows (deals_of d) t x y
    on_place = found d.grid (deals_of d) t x y (tabled r) (tabled c) on.1 beside on.0 r.sound c.sound d.over row.0 column.0 o n p m (ap (λ z. z.0) row.1) (ap (λ z. z.1) row.1) (ap (λ z. z.0) column.1) (ap (λ z. z.1) column.1) d.starts d.begun w is

    pub place_low : get_or d.starts ((o + d.grid.rows * p) * 4 + t) 0 + n * w + m < 4096
    place_low = found_low d.grid (deals_of d) t x y (tabled r) (tabled c) on.1 beside on.0 r.sound c.sound d.over row.0 column.0 o n p m (ap (λ z. z.0) row.1) (ap (λ z. z.1) row.1) (ap (λ z. z.0) column.1) (ap (λ z. z.1) column.1) d.starts d.begun w is d.low

pub dealt_sound : (d : Dealt) → EachSound (deals_of d)
dealt_sound d = maps_sound tabled tabled (λ m. m.sound) (λ m. m.sound) (take d.count d.rows) (take d.count d.columns)

-- where deals fit a nest, its elements are those that are dealt out
pub element_dealt : (grid : Grid) (arrays : List Array) (deals : Deals) → Fits grid arrays deals → (t x y : ℕ) → IsElement arrays t x y → DealtElement deals t x y
element_dealt grid arrays deals fit t x y e =
    let h = element_here arrays t x y e in
    let f = fit.2 t h.0 in
    (omega (arith, fit.0), (h.1, omega arith), (h.3, omega arith))

dealt_element : (grid : Grid) (arrays : List Array) (deals : Deals) → Fits grid arrays deals → (t x y : ℕ) → DealtElement deals t x y → IsElement arrays t x y
dealt_element grid arrays deals fit t x y e =
    let on : t < length arrays = omega (arith, fit.0) in
    let f = fit.2 t on in
    element_there arrays t x y on e.1.0 (omega arith) e.2.0 (omega arith)

pub same_shape : (grid : Grid) (arrays : List Array) (deals : Deals) → Fits grid arrays deals → SameShape arrays deals
same_shape grid arrays deals fit t x y = (element_dealt grid arrays deals fit t x y, dealt_element grid arrays deals fit t x y)
