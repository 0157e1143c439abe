-- Letters and room, statement by statement.
use Rattle.std.proofs.Common.{◌≡◌, ℕ, ◌+◌, ◌*◌, ◌<◌, ◌≤◌, max, true, List, [], ◌∷◌, ◌++◌, map, length, get_or, take, fold, sum_by, sym, ap, ◌∙◌, subst, ap₂, arith, length-append}
use Rattle.std.proofs.lemmas.List.{length-map, get_or-map, map_more, map_push, take_all, length-take-le}
use Rattle.std.proofs.lemmas.List.Sums.{fold_push, sum_by_push}
use Rattle.nest.specs.Sound.{each, statement_kept}
use Rattle.nest.specs.Terms.{Said, Sheet}
use Rattle.nest.specs.Views.{said}
use Rattle.nest.specs.declared.terms.Array.{Array}
use Rattle.nest.specs.declared.terms.Statement.{Statement}
use Rattle.sections.specs.Sections.{Deals}
use Rattle.nest.proofs.Keeps.{each_at}
use Rattle.compiler.specs.declared.letters.LetterCount.{LetterCount}
use Rattle.compiler.specs.declared.parts.PairLetters.{PairLetters}
use Rattle.compiler.specs.Compiled.{counts_of, pairs_of}
use Rattle.compiler.specs.LetterCounts.{AtMost}
use Rattle.compiler.specs.PairRooms.{greatest_room}
use Rattle.compiler.specs.Spans.{seat}
use Rattle.compiler.specs.Totals.{boards_of, letters_in, statement_depth}
use Rattle.compiler.proofs.GreatestRooms.{depth_is}

-- one statement of a list that keeps its ranges
pub item_kept : (arrays : List Array) (items : List Statement) (n : ℕ) (item : Statement) → each (statement_kept arrays) (map said items) ≡ true → n < length items → item ≡ get_or items n item → statement_kept arrays (said item) ≡ true
item_kept arrays items n item all below is =
    let lies : get_or (map said items) n (said item) ≡ said item = get_or-map said items n item (said item) below ∙ ap said (sym is) in
    ap (statement_kept arrays) (sym lies) ∙ each_at (statement_kept arrays) (map said items) all n (said item) (rw (length-map items said) below)

said_more : (items : List Statement) (n : ℕ) (item : Statement) → n < length items → item ≡ get_or items n item → map said (take (n + 1) items) ≡ map said (take n items) ++ said item ∷ []
said_more items n item below is = map_more said items n item below ∙ ap (λ x. map said (take n items) ++ said x ∷ []) (sym is)

-- what was counted is that of some statements, at most 4,096 letters each
pub record Counted (sheet : Sheet) (deals : Deals) (statements : List Said) (pairs : List PairLetters) (letters depth : ℕ) : Type 0 where
  pub by_pair : map counts_of pairs ≡ map (pairs_of sheet deals) statements
  pub all : letters ≡ sum_by (λ s. length (letters_in (seat sheet.grid.rows deals 0) s)) statements
  pub few : letters ≤ 4096 * length statements
  pub deep : depth ≡ fold max 0 (map (statement_depth sheet.grid deals) statements)

-- one statement more, as a list
counted_push : (sheet : Sheet) (deals : Deals) (statements : List Said) (s : Said) (pairs : List PairLetters) (letters depth : ℕ) (table : PairLetters) (more room : ℕ)
    → table.counts ≡ pairs_of sheet deals s → more ≡ length (letters_in (seat sheet.grid.rows deals 0) s) → more ≤ 4096 → room ≡ statement_depth sheet.grid deals s
    → Counted sheet deals statements pairs letters depth → Counted sheet deals (statements ++ s ∷ []) (pairs ++ table ∷ []) (letters + more) (max depth room)
counted_push sheet deals statements s pairs letters depth table more room is-table is-more small is-room c =
    record {
      by_pair = map_push counts_of pairs table ∙ ap₂ (λ a b. a ++ b ∷ []) c.by_pair is-table ∙ sym (map_push (pairs_of sheet deals) statements s);
      all = ap₂ ◌+◌ c.all is-more ∙ sym (sum_by_push (λ t. length (letters_in (seat sheet.grid.rows deals 0) t)) statements s);
      few = simp length-append (omega (arith, c.few));
      deep = ap₂ max c.deep is-room ∙ sym (fold_push max 0 (map (statement_depth sheet.grid deals) statements) (statement_depth sheet.grid deals s)) ∙ ap (fold max 0) (sym (map_push (statement_depth sheet.grid deals) statements s));
    }

-- one statement more
pub counted_more : (sheet : Sheet) (deals : Deals) (items : List Statement) (n : ℕ) (item : Statement) (pairs after : List PairLetters) (letters depth deeper : ℕ) (count : LetterCount) (boards room : ℕ)
    → n < length items → item ≡ get_or items n item → boards ≡ boards_of sheet.grid → boards ≤ 8
    → count.pairs.counts ≡ pairs_of sheet deals (said item) → count.letters ≡ length (letters_in (seat sheet.grid.rows deals 0) (said item)) → AtMost 4096 count
    → room ≡ greatest_room item.mode boards count.pairs.counts → deeper ≡ max depth room → after ≡ pairs ++ count.pairs ∷ []
    → Counted sheet deals (map said (take n items)) pairs letters depth → Counted sheet deals (map said (take (n + 1) items)) after (letters + count.letters) deeper
counted_more sheet deals items n item pairs after letters depth deeper count boards room below is all few table more small wants deep pushed c =
    let so = counted_push sheet deals (map said (take n items)) (said item) pairs letters depth count.pairs count.letters room table more small.1
    (wants ∙ depth_is sheet deals (said item) boards count.pairs.counts all few table) c in
    rw (said_more items n item below is, pushed, deep) so

-- all statements
pub counted_all : (sheet : Sheet) (deals : Deals) (items : List Statement) (n : ℕ) (pairs : List PairLetters) (letters depth : ℕ) → length items ≤ n → map said items ≡ sheet.statements
    → Counted sheet deals (map said (take n items)) pairs letters depth → Counted sheet deals sheet.statements pairs letters depth
counted_all sheet deals items n pairs letters depth end same c = subst (λ t. Counted sheet deals t pairs letters depth) (ap (map said) (take_all n items end) ∙ same) c

-- no more than eight statements, so no more than 32,768 letters
pub letters_few : (sheet : Sheet) (deals : Deals) (items : List Statement) (n : ℕ) (pairs : List PairLetters) (letters depth : ℕ) → n ≤ length items → map said items ≡ sheet.statements → length sheet.statements ≤ 8
    → Counted sheet deals (map said (take n items)) pairs letters depth → (letters ≤ 4096 * n) × (n ≤ 8)
letters_few sheet deals items n pairs letters depth within same eight c =
    let all : length items ≡ length sheet.statements = sym (length-map items said) ∙ ap length same in
    let some : length (map said (take n items)) ≡ n = length-map (take n items) said ∙ length-take-le n items within in
    (omega (arith, c.few), omega arith)
