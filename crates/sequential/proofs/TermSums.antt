-- The value of a statement, term by term. Assumes nothing.
use Rattle.std.proofs.Common.{◌≡◌, ℕ, ◌+◌, ◌<◌, List, length, get_or, take, fold}
use Rattle.std.proofs.lemmas.List.{get_or_read}
use Rattle.std.proofs.lemmas.List.Sums.{fold_more}
use Rattle.nest.specs.declared.terms.ReadTerm.{ReadTerm}
use Rattle.sequential.specs.declared.iteration.Iteration.{Iteration}
use Rattle.sequential.specs.Iterations.{place_in}
use Rattle.sequential.specs.Run.{Setting, with_term}

-- one term more
pub value_more : {V : Type 0} (k : Setting V) (elements : List V) (e : Iteration) (start : V) (items : List ReadTerm) (n : ℕ) (d : ReadTerm) (place : ℕ) (element coefficient product value next : V)
    → n < length items → value ≡ fold (with_term k elements e) start (take n items)
    → place ≡ place_in k.arrays (get_or items n d).source e → place < length elements → element ≡ get_or elements place element
    → (get_or items n d).coefficient < length k.coefficients → coefficient ≡ get_or k.coefficients (get_or items n d).coefficient coefficient
    → product ≡ k.times coefficient element → next ≡ k.plus value product
    → next ≡ fold (with_term k elements e) start (take (n + 1) items)
value_more k elements e start items n d place element coefficient product value next h so p below read c-below c_read times plus =
    let x = get_or_read elements place element below read k.outside in
    let y = get_or_read k.coefficients (get_or items n d).coefficient coefficient c-below c_read k.outside in
    let z = fold_more (with_term k elements e) start items n d h in
    cc
