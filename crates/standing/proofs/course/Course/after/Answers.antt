use Rattle.std.proofs.Common.{◌≡◌, true, sym, ◌∙◌}
use Rattle.std.proofs.lemmas.List.{get_or_default}
use Rattle.std.proofs.lemmas.Bool.{both_ways}
use Rattle.nest.specs.Nests.{shown}
use Rattle.standing.specs.Left.{no_order, in_program}
use Rattle.standing.proofs.NextPlaces.{after_step, after_cell_step, after_order_step}
use Rattle.standing.proofs.PlaceTests.{placed}
use Rattle.standing.proofs.course.Course.after.Goals as goal

pub returns-in-Some : goal.returns-in-Some
returns-in-Some c =
    let n = shown c.args.self.now.nest.now in
    let orders = c.args.self.now.orders.now in
    let inside : in_program n orders c.args.at ≡ true = sym c.contains.ensures ∙ c.if-not-contains.false in
    let same = get_or_default orders c.args.at.order no_order _ (placed n orders c.args.at inside).there in
    let m = after_step n orders c.args.at inside _ c.reads_of-reads.result same c.reads_of-reads.ensures c.in-Some.phase (sym c.next.ensures ∙ c.in-Some.is) in
    record { step = λ h. m.step; outside = λ h. absurd (both_ways _ h inside); there = m.there }

pub returns-in-Some-next_cell : goal.returns-in-Some-next_cell
returns-in-Some-next_cell c =
    let n = shown c.args.self.now.nest.now in
    let orders = c.args.self.now.orders.now in
    let inside : in_program n orders c.args.at ≡ true = sym c.contains.ensures ∙ c.if-not-contains.false in
    let same = get_or_default orders c.args.at.order no_order _ (placed n orders c.args.at inside).there in
    let m = after_cell_step n orders c.args.at inside _ c.reads_of-reads.result same c.reads_of-reads.ensures (sym c.next.ensures ∙ c.in_default.is) c.in-Some-next_cell.next (sym c.next_cell.ensures ∙ c.in-Some-next_cell.is) in
    record { step = λ h. m.step; outside = λ h. absurd (both_ways _ h inside); there = m.there }

pub returns : goal.returns
returns c =
    let n = shown c.args.self.now.nest.now in
    let orders = c.args.self.now.orders.now in
    let inside : in_program n orders c.args.at ≡ true = sym c.contains.ensures ∙ c.if-not-contains.false in
    let same = get_or_default orders c.args.at.order no_order _ (placed n orders c.args.at inside).there in
    let m = after_order_step n orders c.args.at inside _ c.reads_of-reads.result same c.reads_of-reads.ensures (sym c.next.ensures ∙ c.in_default.is) (sym c.next_cell.ensures ∙ c.in_default-next_cell.is) c.orders_from.result c.orders_from.ensures.todo c.orders_from.ensures.there in
    record { step = λ h. m.step; outside = λ h. absurd (both_ways _ h inside); there = m.there }
