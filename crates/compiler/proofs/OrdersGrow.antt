-- The orders of a board, statement after statement. Assumes nothing.
use Rattle.std.proofs.Common.{◌≡◌, ℕ, ◌+◌, ◌<◌, true, List, [], ◌∷◌, ◌++◌, map, length, get_or, take, sym, ap, ◌∙◌, subst, arith}
use Rattle.std.specs.List.{flat_map}
use Rattle.std.proofs.lemmas.List.{map_more, get_or-map, length-map, length-take-le, flat_map_more}
use Rattle.nest.specs.Sound.{each, statement_kept, nest_kept}
use Rattle.nest.specs.Terms.{Said, Sheet}
use Rattle.nest.specs.Views.{said}
use Rattle.nest.specs.declared.terms.Statement.{Statement}
use Rattle.nest.proofs.Keeps.{each_at, nest_parts}
use Rattle.compiler.specs.declared.order.Order.{Order}
use Rattle.compiler.specs.Spans.{Seat}
use Rattle.compiler.specs.Orders.{numbered, orders_for, board_orders}
use Rattle.compiler.specs.Making.{KeptIn}

-- numbers for one more at the end
pub numbered_push : {X : Type 0} (a : ℕ) (xs : List X) (x : X) → numbered a (xs ++ x ∷ []) ≡ numbered a xs ++ (a + length xs, x) ∷ []
numbered_push a [] x = let e : a ≡ a + 0 = omega arith in ap (λ n. (n, x) ∷ []) e
numbered_push a (y ∷ ys) x =
    let e : a + 1 + length ys ≡ a + length (y ∷ ys) = omega arith in
    ap (λ us. (a, y) ∷ us) (numbered_push (a + 1) ys x ∙ ap (λ n. numbered (a + 1) ys ++ (n, x) ∷ []) e)

module _ (b : Seat) where
  -- orders for one more statement at the end
  orders_push : (ss : List Said) (s : Said) (k : ℕ) → length ss ≡ k → board_orders b (ss ++ s ∷ []) ≡ board_orders b ss ++ orders_for b (k, s)
  orders_push ss s k e =
      let at : 0 + length ss ≡ k = omega arith in
      ap (flat_map (orders_for b)) (numbered_push 0 ss s)
      ∙ sym (flat_map_more (orders_for b) [] (numbered 0 ss) (0 + length ss, s))
      ∙ ap (λ n. board_orders b ss ++ orders_for b (n, s)) at

  module _ (items : List Statement) (k : ℕ) where
    pub orders_more : (x : Statement) (vs more : List Order) → k < length items → x ≡ get_or items k x
        → vs ≡ board_orders b (map said (take k items)) → more ≡ vs ++ orders_for b (k, said x) → more ≡ board_orders b (map said (take (k + 1) items))
    orders_more x vs more l is inv e =
        let long : length (map said (take k items)) ≡ k = length-map (take k items) said ∙ length-take-le k items (omega arith) in
        e
        ∙ ap (λ us. us ++ orders_for b (k, said x)) inv
        ∙ sym (orders_push (map said (take k items)) (said x) k long)
        ∙ ap (λ y. board_orders b (map said (take k items) ++ said y ∷ [])) is
        ∙ ap (board_orders b) (sym (map_more said items k x l))

-- each statement of a kept nest is kept
pub statement_kept_lem : (n : Sheet) → nest_kept n.grid n.arrays n.sweeps n.statements ≡ true → (items : List Statement) → map said items ≡ n.statements
    → (k : ℕ) (x : Statement) → k < length items → x ≡ get_or items k x → KeptIn n (said x)
statement_kept_lem n kept items same k x l is =
    let all : each (statement_kept n.arrays) (map said items) ≡ true = subst (λ ss. each (statement_kept n.arrays) ss ≡ true) (sym same) (nest_parts n.grid n.arrays n.sweeps n.statements kept).each_statement in
    let at : get_or (map said items) k (said x) ≡ said x = get_or-map said items k x (said x) l ∙ ap said (sym is) in
    subst (λ s. statement_kept n.arrays s ≡ true) at (each_at (statement_kept n.arrays) (map said items) all k (said x) (omega (arith, length-map items said)))
