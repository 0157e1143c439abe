use Rattle.std.proofs.Common.{◌≡◌, ◌+◌, ◌-◌, ◌*◌, ◌<◌, ◌≤◌, length, get_or, ◌∙◌, arith}
use Rattle.nest.specs.Terms.{nowhere}
use Rattle.layout.specs.Places.{array_at}
use Rattle.layout.proofs.Starts.{element_here, element_there, place_room, place_found, in_from_one, from_in_range}
use Rattle.layout.proofs.table.Layout.place.Goals as goal
use Rattle.layout.proofs.table.Layout.place.Goals.{then-not-contains-via-then-not-contains, then-not-contains-via-else-not-contains+then-not-contains-2}

pub returns-in_err-rows : goal.returns-in_err-rows
returns-in_err-rows c = rw c.from_residual.ensures (λ e. omega (arith, (element_here c.args.self.now.arrays.now c.args.array c.args.row c.args.column e).0, c.in_err-rows.ensures.lookup.3))

pub returns-then-not-contains : goal.returns-then-not-contains
returns-then-not-contains c = λ e.
    let h = element_here c.args.self.now.arrays.now c.args.array c.args.row c.args.column e in
    let found = c.in_ok-rows.ensures.lookup.3.1 nowhere in
    elim c.then-not-contains.branch [
      | then-not-contains-via-then-not-contains w ↦
          let here = c.contains.ensures.value ∙ in_from_one c.new.result _ c.args.row c.new.ensures.start c.new.ensures.end c.new.ensures.exhausted h.1 (rw found h.2) in cc
      | then-not-contains-via-else-not-contains+then-not-contains-2 w ↦
          let here = w.contains-else-not-contains.ensures.value ∙ in_from_one w.new-else-not-contains.result _ c.args.column w.new-else-not-contains.ensures.start w.new-else-not-contains.ensures.end w.new-else-not-contains.ensures.exhausted h.3 (rw found h.4) in cc
    ]

record Found (c : goal.After-result-1) : Type 0 where
  pub there : c.args.array < length c.args.self.now.arrays.now
  pub is : c.in_ok-rows.field-0.now ≡ array_at c.args.self.now.arrays.now c.args.array
  pub row : 1 ≤ c.args.row
  pub row_in : c.args.row ≤ (array_at c.args.self.now.arrays.now c.args.array).rows
  pub column : 1 ≤ c.args.column
  pub column_in : c.args.column ≤ (array_at c.args.self.now.arrays.now c.args.array).columns

found : (c : goal.After-result-1) → Found c
found c =
    let is = c.in_ok-rows.ensures.lookup.3.1 nowhere in
    let rows = from_in_range _ _ _ _ _ c.new.ensures.start c.new.ensures.end c.if-not-contains.ensures.cases in
    let columns = from_in_range _ _ _ _ _ c.new-else-not-contains.ensures.start c.new-else-not-contains.ensures.end c.if-not-contains-2.ensures.cases in
    record {
      there = c.in_ok-rows.ensures.lookup.3.0;
      is = is;
      row = rows.0;
      row_in = rw (← is) rows.1;
      column = columns.0;
      column_in = rw (← is) columns.1;
    }

room : (c : goal.After-result-1) → get_or c.args.self.now.starts c.args.array 0 + (c.args.row - 1) * c.in_ok-rows.field-0.now.columns + (c.args.column - 1) < 8192
room c =
    let f = found c in
    let s = c.args.self.now in
    rw f.is (place_room s.arrays.now s.starts s.few s.small s.begun c.args.array c.args.row c.args.column f.there f.row_in f.column_in)

pub overflow_mul-result : goal.overflow_mul-result
overflow_mul-result c = omega (arith, room c)

pub overflow_add-result : goal.overflow_add-result
overflow_add-result c = omega (arith, room c)

pub overflow_add-result-2 : goal.overflow_add-result-2
overflow_add-result-2 c = omega (arith, room c)

pub returns : goal.returns
returns c =
    let f = found c in
    let s = c.args.self.now in (
      element_there s.arrays.now c.args.array c.args.row c.args.column f.there f.row f.row_in f.column f.column_in,
      rw f.is (place_found s.arrays.now s.starts s.few s.small s.begun c.args.array c.args.row c.args.column f.there),
    )
