use Rattle.std.proofs.Common.{◌≡◌, length, take, filter, sym, ◌∙◌, rules, tests}
use Rattle.std.proofs.lemmas.Iterator.{YieldsList-from_slice}
use Rattle.std.proofs.lemmas.Iterator.Consumers.{YieldsList-from_filter, count_from_yields_List}
use Rattle.std.proofs.lemmas.List.{length-map}
use Rattle.belt.specs.Belt.{for_pair, letter_of}
use Rattle.belt.proofs.belt.Belt.count_of.Goals as goal

pub returns : goal.returns
returns g c =
    let mine = for_pair c.args.pair.from c.args.pair.to in
    let slots = take c.args.self.now.used c.args.self.now.slots.now in
    let counted : c.count.result ≡ length (filter mine slots) = count_from_yields_List c.filter.result c.count.result c.count.ensures.ran (YieldsList-from_filter _ mine (YieldsList-from_slice slots cc) c.filter.ensures.closure (λ x r q k. search (rules, tests))) in
    counted ∙ sym (length-map (filter mine slots) letter_of)
