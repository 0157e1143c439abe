use Rattle.std.proofs.Common.{◌≡◌, ◌*◌, List, map, vec_items, ap, ◌∙◌, ap₂, arith}
use Rattle.std.proofs.lemmas.Nat.{mul-le}
use Rattle.nest.specs.Nests.{shown}
use Rattle.nest.specs.Sound.{each, statement_kept}
use Rattle.nest.specs.Terms.{Sheet}
use Rattle.nest.specs.Views.{said}
use Rattle.nest.specs.declared.nest.Nest.{Nest}
use Rattle.nest.specs.declared.terms.Statement.{Statement}
use Rattle.nest.proofs.Keeps.{NestParts, nest_parts, grid_parts_lem}
use Rattle.compiler.proofs.KeptStatements.{nest_kept_as}
use Rattle.compiler.proofs.StatementTotals.{item_kept, counted_more, counted_all, letters_few}
use Rattle.compiler.proofs.letter_totals.letters_of.Goals as goal

-- the parts of the nest, which keeps its ranges, and its statements
parts : (m : Nest) (n : Sheet) → shown m ≡ n → NestParts n.grid n.arrays n.sweeps n.statements
parts m n e = nest_parts n.grid n.arrays n.sweeps n.statements (nest_kept_as m n e)

same : (items : List Statement) (m : Nest) (n : Sheet) → shown m ≡ n → map said items ≡ (shown m).statements → map said items ≡ n.statements
same items m n e so = so ∙ ap (λ (x : Sheet). x.statements) e

pub letters_in-count-requires : goal.letters_in-count-requires
letters_in-count-requires c =
    let n : Sheet = c.args.fitted.now.nest in
    let all = same c.statements-statements.result.now c.nest-nest.result.now n c.nest-nest.ensures.nest c.statements-statements.ensures in
    item_kept n.arrays c.statements-statements.result.now c.loop-statement.statement-index c.statement-item.result
    (ap (each (statement_kept n.arrays)) all ∙ (parts c.nest-nest.result.now n c.nest-nest.ensures.nest).each_statement) c.loop-statement-test.true c.statement-item.is

pub overflow_add-letters : goal.overflow_add-letters
overflow_add-letters c =
    let n : Sheet = c.args.fitted.now.nest in
    let all = same c.statements-statements.result.now c.nest-nest.result.now n c.nest-nest.ensures.nest c.statements-statements.ensures in
    let few = letters_few n c.args.fitted.now.deals c.statements-statements.result.now c.loop-statement.statement-index (vec_items c.loop-statement.pairs) c.loop-statement.letters c.loop-statement.depth
    c.loop-statement.auto.statement-index-end all (parts c.nest-nest.result.now n c.nest-nest.ensures.nest).some_statements.1 c.loop-statement.invariant in
    omega (arith, few.0, few.1, c.letters_in-count.ensures.room.1)

pub loop-statement-preserved : goal.loop-statement-preserved
loop-statement-preserved c =
    let n : Sheet = c.args.fitted.now.nest in
    let grid : c.grid-grid.result ≡ n.grid = c.grid-grid.ensures ∙ ap (λ (x : Sheet). x.grid) c.nest-nest.ensures.nest in
    let boards : c.grid-grid.result.rows * c.grid-grid.result.columns ≡ n.grid.rows * n.grid.columns = ap (λ h. h.rows * h.columns) grid in
    counted_more n c.args.fitted.now.deals c.statements-statements.result.now c.loop-statement.statement-index c.statement-item.result (vec_items c.loop-statement.pairs) (vec_items c.push.new.self)
    c.loop-statement.letters c.loop-statement.depth c.max-depth.result c.letters_in-count.result (c.grid-grid.result.rows * c.grid-grid.result.columns) c.greatest_room-room.result
    c.loop-statement-test.true c.statement-item.is boards (omega (arith, (grid_parts_lem n.grid (parts c.nest-nest.result.now n c.nest-nest.ensures.nest).grid).boards))
    c.letters_in-count.ensures.pairs c.letters_in-count.ensures.all c.letters_in-count.ensures.room c.greatest_room-room.ensures c.max-depth.ensures c.in_ok-push.ensures.items c.loop-statement.invariant

pub overflow_mul-letters : goal.overflow_mul-letters
overflow_mul-letters c =
    let n : Sheet = c.args.fitted.now.nest in
    let p = parts c.nest-nest.result.now n c.nest-nest.ensures.nest in
    let all = same c.statements-statements.result.now c.nest-nest.result.now n c.nest-nest.ensures.nest c.statements-statements.ensures in
    let few = letters_few n c.args.fitted.now.deals c.statements-statements.result.now c.loop-statement.statement-index (vec_items c.loop-statement.pairs) c.loop-statement.letters c.loop-statement.depth
    c.loop-statement.auto.statement-index-end all p.some_statements.1 c.loop-statement.invariant in
    omega (arith, mul-le c.sweeps.result c.loop-statement.letters 1000 32768 (omega (arith, c.sweeps.ensures, ap (λ (x : Sheet). x.sweeps) c.nest-nest.ensures.nest, p.few_sweeps)) (omega (arith, few.0, few.1)))

pub returns : goal.returns
returns c =
    let n : Sheet = c.args.fitted.now.nest in
    let all = counted_all n c.args.fitted.now.deals c.statements-statements.result.now c.loop-statement.statement-index (vec_items c.loop-statement.pairs) c.loop-statement.letters c.loop-statement.depth
    c.loop-statement-test.false (same c.statements-statements.result.now c.nest-nest.result.now n c.nest-nest.ensures.nest c.statements-statements.ensures) c.loop-statement.invariant in
    record {
      pairs = all.by_pair;
      letters = ap₂ ◌*◌ (c.sweeps.ensures ∙ ap (λ (x : Sheet). x.sweeps) c.nest-nest.ensures.nest) all.all;
      depth = all.deep;
    }
