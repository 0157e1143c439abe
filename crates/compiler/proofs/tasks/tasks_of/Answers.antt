use Rattle.std.proofs.Common.{◌≡◌, List, [], ◌∷◌, ◌++◌, map, Some, vec_items, rules, tests, ◌∙◌, append_assoc}
use Rattle.std.proofs.lemmas.Iterator.{YieldsList-from_slice, YieldsList-from_map, items_from_collect}
use Rattle.std.proofs.lemmas.Iterator.Adapters.{YieldsList-from_once}
use Rattle.std.proofs.lemmas.Iterator.Consumers.{YieldsList-at, YieldsList-from_chain}
use Rattle.std.proofs.lemmas.Result.{IfOk-weaker}
use Rattle.nest.specs.declared.terms.ReadTerm.{ReadTerm}
use Rattle.compiler.specs.declared.order.Task.TheVariants.{Ship, Base, Add, Store}
use Rattle.compiler.proofs.tasks.tasks_of.Goals as goal

-- the tasks in order, as the chain joins them
together : (reads : List ReadTerm) → ((map Ship reads ++ Base ∷ []) ++ map Add reads) ++ Store ∷ [] ≡ map Ship reads ++ (Base ∷ (map Add reads ++ (Store ∷ [])))
together reads = simp append_assoc

pub returns : goal.returns
returns c =
    let reads : List ReadTerm = vec_items c.args.statement.now.reads in
    IfOk-weaker c.collect.result _ _ (λ v e. e ∙ together reads)
    (items_from_collect c.collect.result c.collect.ensures.ran
    (YieldsList-from_chain
    (YieldsList-at c.chain-3.ensures.first (YieldsList-from_chain
    (YieldsList-at c.chain-2.ensures.first (YieldsList-from_chain
    (YieldsList-at c.chain.ensures.first (YieldsList-from_map _ Ship (YieldsList-from_slice reads cc) c.map-ships.ensures.closure (λ x r q k. search (rules, tests))))
    (YieldsList-at c.chain.ensures.second (YieldsList-from_once (Some Base) c.once.ensures.item)) (cc) (cc)))
    (YieldsList-at c.chain-2.ensures.second (YieldsList-from_map _ Add (YieldsList-from_slice reads cc) c.map-adds.ensures.closure (λ x r q k. search (rules, tests)))) (cc) (cc)))
    (YieldsList-at c.chain-3.ensures.second (YieldsList-from_once (Some Store) c.once-2.ensures.item)) (cc) (cc)))
