use Rattle.std.proofs.Common.{◌<◌, ◌≤◌, sym, arith}
use Rattle.std.proofs.lemmas.Grind.{common_steps}
use Rattle.client_map.specs.FrontDeals.{extent_front, place_front, place_behind}
use Rattle.client_map.proofs.front.answers.FrontLoadedOwnerMap.place.Goals as goal

pub returns-in_err-before : goal.returns-in_err-before
returns-in_err-before c =
    let m = c.args.self.now in
    let e = extent_front m.numbers.boards m.numbers.length m.front in
    grind (arith, common_steps)

pub returns-then-before-self : goal.returns-then-before-self
returns-then-before-self c =
    let m = c.args.self.now in
    let e = extent_front m.numbers.boards m.numbers.length m.front in
    let on = c.in_ok-before.ensures in
    let front : c.args.x ≤ m.front = omega arith in
    ((on.0.0, omega arith), rw on.1 (sym (place_front m.numbers.boards m.numbers.length m.front m.numbers.within.0 c.args.x on.0.0 on.0.1 front)))

pub returns : goal.returns
returns c =
    let m = c.args.self.now in
    let e = extent_front m.numbers.boards m.numbers.length m.front in
    let on = c.in_ok-before.ensures in
    let behind : m.front < c.args.x = omega arith in
    ((on.0.0, omega arith), rw (c.front_of.ensures, on.1) (sym (place_behind m.numbers.boards m.numbers.length m.front m.numbers.within.0 c.args.x on.0.1 behind)))
