-- The numbers that the steps of orders are counted by. Assumes nothing.
use Rattle.std.proofs.Common.{◌≡◌, ℕ, ◌<◌, ◌≤◌, List, map, length, get_or, vec_items, vec_len, sym, ap, ◌∙◌, arith}
use Rattle.std.proofs.ByRecursion.{All-get_or}
use Rattle.std.proofs.lemmas.List.{get_or-map, length-map}
use Rattle.nest.specs.Terms.{Said}
use Rattle.nest.specs.Views.{said}
use Rattle.nest.specs.declared.terms.Statement.{Statement}
use Rattle.compiler.specs.StepCounts.{read_counts, FewReads}

-- how many reads the statement at an index has
pub reads_at : (items : List Statement) (ss : List Said) → map said items ≡ ss → (k : ℕ) (x : Statement) (r : ℕ) → k < length ss → FewReads ss → r ≡ vec_len (get_or items k x).reads
    → (r ≡ get_or (read_counts ss) k 0) × (r ≤ 4)
reads_at items ss same k x r there few e =
    let l : k < length items = omega (arith, there, ap length same, length-map items said) in
    let at : length (get_or ss k (said x)).reads ≡ length (vec_items (get_or items k x).reads) =
    ap (λ us. length (get_or us k (said x)).reads) (sym same) ∙ ap (λ s. length s.reads) (get_or-map said items k x (said x) l) in
    let small : length (get_or ss k (said x)).reads ≤ 4 = All-get_or (λ s. length s.reads ≤ 4) ss k (said x) there few in
    let long : vec_len (get_or items k x).reads ≡ length (vec_items (get_or items k x).reads) = (get_or items k x).reads.ok.0 in
    (e ∙ long ∙ sym at ∙ sym (get_or-map (λ (s : Said). length s.reads) ss k (said x) 0 there), omega (arith, at, small, long, e))
