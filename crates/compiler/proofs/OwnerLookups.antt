-- Owners looked up by loop value.
use Rattle.std.proofs.Common.{◌≡◌, ℕ, ◌+◌, ◌*◌, ◌<◌, ◌≤◌, List, length, get_or, set, refl, ap, ◌∙◌, ap₂, ⊎_elim, arith}
use Rattle.std.proofs.lemmas.List.{get_or-set_same, get_or-set_other}
use Rattle.std.proofs.lemmas.Bool.{cases_eq}
use Rattle.nest.specs.Terms.{Said, position, range_of}
use Rattle.nest.specs.declared.terms.Access.{Access}
use Rattle.nest.specs.declared.terms.Range.{Range}
use Rattle.nest.specs.declared.terms.Subscript.{Subscript}
use Rattle.nest.specs.declared.terms.Variable.{Variable}
use Rattle.nest.specs.declared.terms.Variable.TheVariants.{I, J}
use Rattle.owner_map.specs.Meaning.{Deal, Position, owner}
use Rattle.layout.proofs.Starts.{element_here}
use Rattle.sections.specs.DealtNests.{DealtNest, IsFitted}
use Rattle.sections.specs.Sections.{rows_of, columns_of}
use Rattle.sequential.specs.Iterations.{variable_in, position_in}
use Rattle.sequential.specs.Ready.{Within, SmallIn}
use Rattle.sequential.specs.declared.iteration.Iteration.{Iteration}
use Rattle.dealing.specs.declared.dimension.Dimension.{Dimension}
use Rattle.dealing.specs.declared.dimension.Dimension.TheVariants.{Rows, Columns}
use Rattle.compiler.specs.declared.owners.Owners.{Owners}
use Rattle.compiler.specs.declared.owners.OwnersAlong.{OwnersAlong}
use Rattle.compiler.specs.Cells.{board_at}
use Rattle.compiler.specs.OwnerTables.{Stays, Along, HasOwner, Reaches, Tells, owner_by, board_by}
use Rattle.compiler.specs.Spans.{seat, deal_in, subscript_in}
use Rattle.compiler.proofs.TaskSpans.{board_there}

-- a table has the owners at the values from low up to w, without w
abbrev pub AlongTo : Deal → Subscript → ℕ → ℕ → List ℕ → Type 0
AlongTo d s low w table = (v : ℕ) → low ≤ v → v < w → get_or table v 0 ≡ owner d (position s v)

pub along_more : (d : Deal) (s : Subscript) (low w : ℕ) (table : List ℕ) (x o : ℕ) → w < length table → AlongTo d s low w table → x ≡ position s w → o ≡ owner d x → AlongTo d s low (w + 1) (set table w o)
along_more d s low w table x o h so at e v p l =
    ⊎_elim
    (λ same. rw same (get_or-set_same table w o 0 h ∙ e ∙ ap (owner d) at))
    (λ ne. get_or-set_other table w v o 0 ne ∙ so v p (omega arith))
    (cases_eq v w)

-- an iteration in which a variable has a given value
at_value : Variable → Said → ℕ → Iteration
at_value I s v = record { i = v; j = s.j.low }
at_value J s v = record { i = s.i.low; j = v }

value_at : (x : Variable) (s : Said) (v : ℕ) → variable_in x (at_value x s v) ≡ v
unfolding at_value
value_at I s v = refl
value_at J s v = refl

within_at : (x : Variable) (s : Said) (v : ℕ) → s.i.low ≤ s.i.high → s.j.low ≤ s.j.high → (range_of x s.i s.j).low ≤ v → v ≤ (range_of x s.i s.j).high → Within s (at_value x s v)
unfolding at_value
within_at I s v p q l h = (l, h, omega arith, q)
within_at J s v p q l h = (omega arith, p, l, h)

in_range : (x : Variable) (s : Said) (e : Iteration) → Within s e → ((range_of x s.i s.j).low ≤ variable_in x e) × (variable_in x e ≤ (range_of x s.i s.j).high)
in_range I s e w = (w.0, w.1)
in_range J s e w = (w.2, w.3)

range_some : (x : Variable) (s : Said) → s.i.low ≤ s.i.high → s.j.low ≤ s.j.high → (range_of x s.i s.j).low ≤ (range_of x s.i s.j).high
range_some I s p q = p
range_some J s p q = q

-- deals that fit a nest, and an access that names an element in each iteration of a statement
module _ (d : DealtNest) (fitted : IsFitted d) (s : Said) (some : (s.i.low ≤ s.i.high) × (s.j.low ≤ s.j.high)) (a : Access) (reaches : Reaches d.nest.arrays s a) where
  pub array_there : a.array < length d.nest.arrays
  array_there = (element_here d.nest.arrays a.array _ _ (reaches (record { i = s.i.low; j = s.j.low }) (omega arith, some.0, omega arith, some.1)).element).0

  -- the position that it names in a dimension is one of its deal, and small
  position_there : (v : Dimension) (e : Iteration) → Within s e → Position (deal_in v d.deals a.array) (position_in (subscript_in v a) e)
  position_there Rows e w =
      let at = element_here d.nest.arrays a.array _ _ (reaches e w).element in
      (at.1, omega (arith, at.2, (fitted.0.2 a.array at.0).0.1))
  position_there Columns e w =
      let at = element_here d.nest.arrays a.array _ _ (reaches e w).element in
      (at.3, omega (arith, at.4, (fitted.0.2 a.array at.0).1.1))

  small_there : (v : Dimension) (e : Iteration) → Within s e → SmallIn (subscript_in v a) e
  small_there Rows e w = (reaches e w).row
  small_there Columns e w = (reaches e w).column

  module _ (v : Dimension) (m : Deal) (is : m ≡ deal_in v d.deals a.array) (range : Range) (same : range ≡ range_of (subscript_in v a).variable s.i s.j) where
    pub stays : Stays m (subscript_in v a) range
    stays =
        let x : Variable = (subscript_in v a).variable in
        let w : Within s (at_value x s (range_of x s.i s.j).high) = within_at x s _ some.0 some.1 (range_some x s some.0 some.1) (omega arith) in
        let e = small_there v _ w in
        rw (same, is) (
          e.0,
          e.2,
          omega (arith, e.1, value_at x s (range_of x s.i s.j).high),
          λ u low high. rw (value_at x s u) at (position_there v (at_value x s u) (within_at x s u some.0 some.1 low high)),
        )

    -- a table along the subscript tells the owner in each iteration
    told : (table : OwnersAlong) → Along m (subscript_in v a) range table → (e : Iteration) → Within s e → HasOwner table e × (owner_by table e ≡ owner (deal_in v d.deals a.array) (position_in (subscript_in v a) e))
    told table along e w =
        let x : Variable = (subscript_in v a).variable in
        let r = in_range x s e w in
        let at : variable_in table.variable e ≡ variable_in x e = ap (λ y. variable_in y e) along.1 in (
          (along.0, omega (arith, at, (small_there v e w).1)),
          ap (λ n. get_or table.owners n 0) at ∙ (rw same at along.2) _ r.0 r.1 ∙ ap (λ n. owner n (position_in (subscript_in v a) e)) is,
        )

  -- tables of the owners along both subscripts tell the board
  pub tables_tell : d.nest.grid.rows * d.nest.grid.columns ≤ 8 → (m c : Deal) → m ≡ rows_of d.deals a.array → c ≡ columns_of d.deals a.array → (across down : Range)
      → across ≡ range_of a.row.variable s.i s.j → down ≡ range_of a.column.variable s.i s.j → (o : Owners) → Along m a.row across o.rows → Along c a.column down o.columns → o.grid_rows ≡ d.nest.grid.rows
      → Tells d.nest.grid.rows d.deals s a o
  tables_tell room m c is-m is_c across down sa sd o ra ca sq e w =
      let row = told Rows m is-m across sa o.rows ra e w in
      let column = told Columns c is_c down sd o.columns ca e w in
      let is : board_by o e ≡ board_at (seat d.nest.grid.rows d.deals 0) a e = ap₂ (λ x y. x + y) row.1 (ap₂ (λ x y. x * y) sq column.1) in
      let there = board_there d.nest.grid d.nest.arrays d.deals fitted.0 (λ t l k. (fitted.1.0 t l, fitted.1.1 t k)) a e array_there in
      ((row.0, column.0, omega (arith, is, there)), is)
