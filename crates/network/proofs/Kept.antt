-- How a write to the lists that hold a state shows in the state, and so what a request comes to in terms of the lists.
use Rattle.std.proofs.Common.{◌≡◌, ℕ, ◌+◌, ◌<◌, ◌≤◌, eqb, List, [], ◌∷◌, length, get_or, set, sym, refl, ap, ◌∙◌, arith, sum_by}
use mathlib.Core.Path.{fun_ext}
use Rattle.std.proofs.lemmas.Bool.Decides.{nat_tests}
use Rattle.std.proofs.lemmas.Grind.{common_steps}
use Rattle.std.proofs.lemmas.List.Sums.{sum_by-set}
use Rattle.std.proofs.lemmas.Bool.{eq-eqb, cond-true}
use Rattle.network.specs.Network.{ends, goes_on, puts, takes, State}
use Rattle.network.specs.Request.{replaced, changed, joined, without_oldest}
use Rattle.network.specs.Fixed.{Fixed, asks}
use Rattle.network.specs.Runs.{is_ran}
use Rattle.network.specs.Slots.{one_way, held_by}
use Rattle.network.specs.declared.answer.Answer.{Answer}
use Rattle.network.specs.declared.answer.Answer.TheVariants.{Ran, Waiting, Ended, Refused}
use Rattle.network.proofs.Rules as rule

-- What a request of running code promises: of boards that are f, from a state s with so many steps left, board p answered a,
-- and left boards that are f' in s'.
abbrev pub Answered : {L S : Type 0} → Fixed L S → Fixed L S → State L S → ℕ → ℕ → Answer → State L S → ℕ → Type 0
Answered f f' s left p a s' left' =
    record { asked : (a, s') ≡ asks f s p; same : f' ≡ f; fewer_left : is_ran a + left' ≤ left }

-- How code keeps boards: what they are, the one board that each puts to, the letters that a slot stands for, what is read past
-- the lists' ends, and the steps that a board has left.
pub record Way (L S C : Type 0) : Type 0 where
  pub fixed : Fixed L S
  pub to : ℕ → ℕ
  pub letters : C → List L
  pub idle : S
  pub empty : C
  pub weight : S → ℕ

own_set : {S : Type 0} (owns : List S) (p : ℕ) (t idle : S) → p < length owns
    → ◌≡◌ {A = ℕ → S} (λ q. get_or (set owns p t) q idle) (replaced p t (λ q. get_or owns q idle))
unfolding replaced
own_set owns p t idle h = fun_ext (λ q. grind (arith, nat_tests, common_steps))

-- the slot of board q was written, which changes its row by g
row_set : {L C : Type 0} (to : ℕ → ℕ) (letters : C → List L) (empty : C) (slots : List C) (q : ℕ) (v : C) (g : List L → List L)
    → q < length slots → letters v ≡ g (letters (get_or slots q empty))
    → one_way to letters empty (set slots q v) ≡ changed q (to q) g (one_way to letters empty slots)
unfolding one_way changed
row_set to letters empty slots q v g h e = fun_ext (λ i. fun_ext (λ j. grind (arith, nat_tests, common_steps)))

same_rows : {L : Type 0} (p q : ℕ) (row : ℕ → ℕ → List L) → row ≡ changed p q (λ r. r) row
unfolding changed
same_rows p q row = fun_ext (λ i. fun_ext (λ j. grind (arith, nat_tests)))

module _ {L S C : Type 0} (way : Way L S C) (owns : List S) (slots : List C) (p : ℕ) where
  held : State L S
  held = held_by way.to way.letters way.idle way.empty owns slots

  -- A request to board p was answered by a, and left the lists owns' and slots'.
  abbrev pub Left : Answer → List S → List C → Type 0
  Left a owns' slots' =
      Answered way.fixed way.fixed (held_by way.to way.letters way.idle way.empty owns slots) (sum_by way.weight owns) p a (held_by way.to way.letters way.idle way.empty owns' slots') (sum_by way.weight owns')

  -- the same, under other names of the answer and the lists
  pub told : {a a' : Answer} {owns' owns'' : List S} {slots' slots'' : List C} → Left a owns' slots'
      → a' ≡ a → owns'' ≡ owns' → slots'' ≡ slots' → Left a' owns'' slots''
  told x e f h = rw (e, f, h) x

  unchanged : (a : Answer) → is_ran a ≡ 0 → asks way.fixed held p ≡ (a, held) → Left a owns slots
  unfolding held
  unchanged a none e = record { asked = sym e; same = refl; fewer_left = omega (arith, none) }

  -- the row from board i to the board that it puts to
  row_is : (i j : ℕ) → j ≡ way.to i → held.row i j ≡ way.letters (get_or slots i way.empty)
  unfolding held held_by one_way
  row_is i j e = cond-true (eqb j (way.to i)) (way.letters (get_or slots i way.empty)) [] (eq-eqb j (way.to i) e)

  pub refused : way.fixed.network.boards ≤ p → Left Refused owns slots
  refused outside = unchanged Refused refl (rule.refused way.fixed.network way.fixed.depth held p outside)

  module _ (inside : p < way.fixed.network.boards) where
    pub ended : way.fixed.network.next p (get_or owns p way.idle) ≡ ends → Left Ended owns slots
    unfolding held held_by
    ended e = unchanged Ended refl (rule.ended way.fixed.network way.fixed.depth held p inside e)

    pub put_waits : (x : L) (t : S) → way.fixed.network.next p (get_or owns p way.idle) ≡ puts (way.to p) x t → way.fixed.depth ≤ length (way.letters (get_or slots p way.empty)) → Left Waiting owns slots
    unfolding held held_by
    put_waits x t e full =
        unchanged Waiting refl (rule.put_waits way.fixed.network way.fixed.depth held p (way.to p) x t inside e (rw (row_is p (way.to p) refl) full))

    pub take_waits : (q : ℕ) (go : L → S) → way.fixed.network.next p (get_or owns p way.idle) ≡ takes q go → p ≡ way.to q → way.letters (get_or slots q way.empty) ≡ [] → Left Waiting owns slots
    unfolding held held_by
    take_waits q go e there none =
        unchanged Waiting refl (rule.take_waits way.fixed.network way.fixed.depth held p q go inside e (row_is q p there ∙ none))

    module _ (kept : p < length owns) where
      ran : (t : S) (slots' : List C) (row : ℕ → ℕ → List L) → way.weight t < way.weight (get_or owns p way.idle) → one_way way.to way.letters way.empty slots' ≡ row
          → asks way.fixed held p ≡ (Ran, record { own = replaced p t (λ q. get_or owns q way.idle); row = row })
          → Left Ran (set owns p t) slots'
      unfolding held held_by
      ran t slots' row lighter rows e =
          let own = own_set owns p t way.idle kept in
          record {
            asked = (λ i. (Ran, record { own = own i; row = rows i })) ∙ sym e;
            same = refl;
            fewer_left = omega (arith, sum_by-set way.weight owns p t way.idle kept, lighter);
          }

      pub ran_alone : (t : S) → way.fixed.network.next p (get_or owns p way.idle) ≡ goes_on t → way.weight t < way.weight (get_or owns p way.idle) → Left Ran (set owns p t) slots
      unfolding held held_by
      ran_alone t e lighter =
          ran t slots _ lighter (same_rows p p (one_way way.to way.letters way.empty slots)) (rule.ran_alone way.fixed.network way.fixed.depth held p t inside e)

      pub put_ran : (x : L) (t : S) (v : C) → p < length slots → way.fixed.network.next p (get_or owns p way.idle) ≡ puts (way.to p) x t
          → length (way.letters (get_or slots p way.empty)) < way.fixed.depth → way.letters v ≡ joined x (way.letters (get_or slots p way.empty)) → way.weight t < way.weight (get_or owns p way.idle)
          → Left Ran (set owns p t) (set slots p v)
      unfolding held held_by
      put_ran x t v k e room joins lighter =
          ran t (set slots p v) _ lighter (row_set way.to way.letters way.empty slots p v (joined x) k joins) (rule.put_ran way.fixed.network way.fixed.depth held p (way.to p) x t inside e (rw (row_is p (way.to p) refl) room))

      pub take_ran : (q : ℕ) (go : L → S) (x : L) (rest : List L) (v : C) → q < length slots
          → way.fixed.network.next p (get_or owns p way.idle) ≡ takes q go → p ≡ way.to q → way.letters (get_or slots q way.empty) ≡ x ∷ rest → way.letters v ≡ rest → way.weight (go x) < way.weight (get_or owns p way.idle)
          → Left Ran (set owns p (go x)) (set slots q v)
      unfolding held held_by without_oldest
      take_ran q go x rest v k e there some left lighter =
          let rows = row_set way.to way.letters way.empty slots q v without_oldest k (left ∙ ap without_oldest (sym some)) in
          ran (go x) (set slots q v) _ lighter (rows ∙ ap (λ j. changed q j without_oldest (one_way way.to way.letters way.empty slots)) (sym there)) (rule.take_ran way.fixed.network way.fixed.depth held p q go x rest inside e (row_is q p there ∙ some))
