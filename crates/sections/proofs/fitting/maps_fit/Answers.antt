use Rattle.std.proofs.Common.{MatchBool, map, sym, arith, rules, tests}
use Rattle.std.proofs.lemmas.Bool.{MatchBool-at_true, MatchBool-at_false}
use Rattle.std.proofs.lemmas.Iterator.{cases_from_all, YieldsList-from_slice, YieldsList-from_zip}
use Rattle.std.proofs.lemmas.Iterator.Consumers.{YieldsList-at}
use Rattle.nest.specs.declared.terms.Array.{Array}
use Rattle.sections.specs.Sections.{DealsOut, Fits, dealt}
use Rattle.sections.proofs.MapsFit.{AllOut, SomeNot, fits_like, answer_like, unfit_rows, fit_columns}
use Rattle.sections.proofs.fitting.maps_fit.Goals as goal

pub returns-then-all : goal.returns-then-all
returns-then-all g c =
    let rows : MatchBool c.all.result (AllOut g.R.OwnerMap.meaning c.grid-grid.result.rows (λ a. a.rows) c.arrays-arrays.result.now c.args.row_maps.now) (SomeNot g.R.OwnerMap.meaning c.grid-grid.result.rows (λ a. a.rows) c.arrays-arrays.result.now c.args.row_maps.now) =
    cases_from_all c.all.new.self _ c.all.result (λ (p : Array × g.row.R.Denot). DealsOut (g.R.OwnerMap.meaning p.1) c.grid-grid.result.rows p.0.rows) (λ (p : Array × g.row.R.Denot). DealsOut (g.R.OwnerMap.meaning p.1) c.grid-grid.result.rows p.0.rows → ⊥) c.all.ensures.ran
    (YieldsList-from_zip (YieldsList-at c.zip-by_rows.ensures.first (YieldsList-from_slice c.arrays-arrays.result.now c.iter.ensures.rest)) (YieldsList-from_slice c.args.row_maps.now c.zip-by_rows.ensures.second.0)) (λ x q k. search (rules, tests)) (λ x q k. search (rules, tests)) in
    let columns : MatchBool c.all-then-all.result (AllOut g.C.OwnerMap.meaning c.grid-grid.result.columns (λ a. a.columns) c.arrays-arrays.result.now c.args.column_maps.now) (SomeNot g.C.OwnerMap.meaning c.grid-grid.result.columns (λ a. a.columns) c.arrays-arrays.result.now c.args.column_maps.now) =
    cases_from_all c.all-then-all.new.self _ c.all-then-all.result (λ (p : Array × g.row.C.Denot). DealsOut (g.C.OwnerMap.meaning p.1) c.grid-grid.result.columns p.0.columns) (λ (p : Array × g.row.C.Denot). DealsOut (g.C.OwnerMap.meaning p.1) c.grid-grid.result.columns p.0.columns → ⊥) c.all-then-all.ensures.ran
    (YieldsList-from_zip (YieldsList-at c.zip-by_columns.ensures.first (YieldsList-from_slice c.arrays-arrays.result.now c.iter-2.ensures.rest)) (YieldsList-from_slice c.args.column_maps.now c.zip-by_columns.ensures.second.0)) (λ x q k. search (rules, tests)) (λ x q k. search (rules, tests)) in
    answer_like _ _ _ _ _ c.all-then-all.result c.grid-grid.ensures c.arrays-arrays.ensures
    (fit_columns g.R.OwnerMap.meaning g.C.OwnerMap.meaning c.grid-grid.result c.arrays-arrays.result.now c.args.row_maps.now c.args.column_maps.now (omega arith) (omega arith) (MatchBool-at_true _ _ c.if-all.true rows) c.all-then-all.result columns)

pub returns-else-all : goal.returns-else-all
returns-else-all g c =
    let rows : MatchBool c.all.result (AllOut g.R.OwnerMap.meaning c.grid-grid.result.rows (λ a. a.rows) c.arrays-arrays.result.now c.args.row_maps.now) (SomeNot g.R.OwnerMap.meaning c.grid-grid.result.rows (λ a. a.rows) c.arrays-arrays.result.now c.args.row_maps.now) =
    cases_from_all c.all.new.self _ c.all.result (λ (p : Array × g.row.R.Denot). DealsOut (g.R.OwnerMap.meaning p.1) c.grid-grid.result.rows p.0.rows) (λ (p : Array × g.row.R.Denot). DealsOut (g.R.OwnerMap.meaning p.1) c.grid-grid.result.rows p.0.rows → ⊥) c.all.ensures.ran
    (YieldsList-from_zip (YieldsList-at c.zip-by_rows.ensures.first (YieldsList-from_slice c.arrays-arrays.result.now c.iter.ensures.rest)) (YieldsList-from_slice c.args.row_maps.now c.zip-by_rows.ensures.second.0)) (λ x q k. search (rules, tests)) (λ x q k. search (rules, tests)) in
    let off : Fits c.grid-grid.result c.arrays-arrays.result.now (dealt (map g.R.OwnerMap.meaning c.args.row_maps.now) (map g.C.OwnerMap.meaning c.args.column_maps.now)) → ⊥ =
    unfit_rows g.R.OwnerMap.meaning g.C.OwnerMap.meaning c.grid-grid.result c.arrays-arrays.result.now c.args.row_maps.now c.args.column_maps.now (omega arith) (MatchBool-at_false _ _ c.if-all.false rows) in
    rw c.if-all.false (λ fit. off (fits_like _ _ _ _ _ (sym c.grid-grid.ensures) (sym c.arrays-arrays.ensures) fit))
