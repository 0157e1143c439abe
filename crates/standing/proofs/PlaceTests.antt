-- The tests of a place, one by one. Assumes nothing.
use Rattle.std.proofs.Common.{◌≡◌, ◌<◌, ◌≤◌, true, List, length, sym, ◌∙◌}
use Rattle.std.proofs.lemmas.Bool.{and_parts, and_from, lt-ltb, le-leb, ltb-true, leb-true}
use Rattle.nest.specs.Terms.{Sheet}
use Rattle.compiler.specs.declared.order.Order.{Order}
use Rattle.standing.specs.declared.place.Place.{Place}
use Rattle.standing.specs.Left.{order_at, statement_of, in_program}
use Rattle.standing.specs.Moves.{goes_with, reads_of}
use Rattle.standing.proofs.PhaseSteps.{task_there}

-- what a place of the program keeps
pub record Placed (n : Sheet) (orders : List Order) (at : Place) : Type 0 where
  pub early : at.sweep < n.sweeps
  pub there : at.order < length orders
  pub i_from : (order_at orders at.order).i.first ≤ at.i
  pub i_below : at.i < (order_at orders at.order).i.end
  pub j_from : (order_at orders at.order).j.first ≤ at.j
  pub j_below : at.j < (order_at orders at.order).j.end
  pub goes : goes_with (order_at orders at.order).work (reads_of n (order_at orders at.order)) at.phase ≡ true

pub placed : (n : Sheet) (orders : List Order) (at : Place) → in_program n orders at ≡ true → Placed n orders at
placed n orders at h =
    let o = order_at orders at.order in
    let parts = and_parts _ _ h in
    let outer = and_parts _ _ parts.0 in
    let inner = and_parts _ _ parts.1 in
    let spans = and_parts _ _ inner.0 in
    let is = and_parts _ _ spans.0 in
    let js = and_parts _ _ spans.1 in
    record {
      early = ltb-true at.sweep n.sweeps outer.0;
      there = ltb-true at.order (length orders) outer.1;
      i_from = leb-true o.i.first at.i is.0;
      i_below = ltb-true at.i o.i.end is.1;
      j_from = leb-true o.j.first at.j js.0;
      j_below = ltb-true at.j o.j.end js.1;
      goes = sym (task_there (statement_of n o) o.work at.phase) ∙ inner.1;
    }

-- and a place that keeps it is the program's
pub from_placed : (n : Sheet) (orders : List Order) (at : Place) → Placed n orders at → in_program n orders at ≡ true
from_placed n orders at p =
    let o = order_at orders at.order in
    and_from _ _ (and_from _ _ (lt-ltb at.sweep n.sweeps p.early) (lt-ltb at.order (length orders) p.there))
    (and_from _ _
    (and_from _ _ (and_from _ _ (le-leb o.i.first at.i p.i_from) (lt-ltb at.i o.i.end p.i_below)) (and_from _ _ (le-leb o.j.first at.j p.j_from) (lt-ltb at.j o.j.end p.j_below)))
    (task_there (statement_of n o) o.work at.phase ∙ p.goes))
