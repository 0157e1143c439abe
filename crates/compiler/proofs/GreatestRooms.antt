-- The greatest room, pair by pair.
use Rattle.std.proofs.Common.{◌≡◌, ℕ, zero, suc, ◌+◌, ◌<◌, ◌≤◌, max, List, [], ◌∷◌, ◌++◌, map, get_or, fold, sym, refl, ap, ◌∙◌, ap₂, arith}
use Rattle.std.specs.List.{range_with_len, flat_map}
use Rattle.std.proofs.lemmas.List.FromFn.{map-range_with_len_more, get_or-map-range_with_len}
use Rattle.std.proofs.lemmas.List.{map-id, flat_map_more}
use Rattle.std.proofs.lemmas.List.Sums.{fold_push, fold-append}
use Rattle.nest.specs.Terms.{Said, Sheet}
use Rattle.nest.specs.declared.terms.Mode.{Mode}
use Rattle.sections.specs.Sections.{Deals}
use Rattle.compiler.specs.Compiled.{pairs_of}
use Rattle.compiler.specs.LetterCounts.{count_at}
use Rattle.compiler.specs.PairRooms.{room_of, rooms_from, greatest_room}
use Rattle.compiler.specs.Spans.{seat}
use Rattle.compiler.specs.Totals.{boards_of, letters_in, between, room_for, greatest, statement_depth}

counting_more : (n : ℕ) → range_with_len 0 (n + 1) ≡ range_with_len 0 n ++ n ∷ []
counting_more n = sym (map-id (range_with_len 0 (n + 1))) ∙ map-range_with_len_more (λ x. x) 0 n n (omega arith) ∙ ap (λ xs. xs ++ n ∷ []) (map-id (range_with_len 0 n))

-- a fold over one number more
pub folded_map_more : {B : Type 0} (f : B → ℕ → B) (b : B) (g : ℕ → ℕ) (n x : ℕ) (before after : B) → before ≡ fold f b (map g (range_with_len 0 n)) → x ≡ g n → after ≡ f before x → after ≡ fold f b (map g (range_with_len 0 (n + 1)))
folded_map_more f b g n x before after so is step =
    step ∙ ap₂ f so is ∙ sym (fold_push f b (map g (range_with_len 0 n)) (g n)) ∙ ap (fold f b) (sym (map-range_with_len_more g 0 n n (omega arith)))

-- a fold over one row of numbers more
pub folded_joined_more : {B : Type 0} (f : B → ℕ → B) (b : B) (row : ℕ → List ℕ) (n : ℕ) (before after : B) → before ≡ fold f b (flat_map row (range_with_len 0 n)) → after ≡ fold f before (row n) → after ≡ fold f b (flat_map row (range_with_len 0 (n + 1)))
folded_joined_more f b row n before after so step =
    step ∙ ap (λ t. fold f t (row n)) so ∙ sym (fold-append f b (flat_map row (range_with_len 0 n)) (row n))
    ∙ ap (fold f b) (flat_map_more row [] (range_with_len 0 n) n ∙ ap (flat_map row) (sym (counting_more n)))

-- the rooms from one board more
pub rooms_more : (mode : Mode) (boards : ℕ) (counts : List (List ℕ)) (from to before after : ℕ) → to ≡ boards → before ≡ fold max 0 (flat_map (rooms_from mode boards counts) (range_with_len 0 from))
    → after ≡ fold max before (map (room_of mode counts from) (range_with_len 0 to)) → after ≡ fold max 0 (flat_map (rooms_from mode boards counts) (range_with_len 0 (from + 1)))
rooms_more mode boards counts from to before after end so row =
    folded_joined_more max 0 (rooms_from mode boards counts) from before after so (row ∙ ap (λ n. fold max before (map (room_of mode counts from) (range_with_len 0 n))) end)

-- what agrees at every number counted
map_like : {X : Type 0} (f g : ℕ → X) (a n : ℕ) → ((k : ℕ) → a ≤ k → k < a + n → f k ≡ g k) → map f (range_with_len a n) ≡ map g (range_with_len a n)
map_like f g a zero same = refl
map_like f g a (suc n) same = ap₂ (λ x xs. x ∷ xs) (same a (omega arith) (omega arith)) (map_like f g (a + 1) n (λ k l h. same k (omega arith) (omega arith)))

joined_like : {X : Type 0} (f g : ℕ → List X) (a n : ℕ) → ((k : ℕ) → a ≤ k → k < a + n → f k ≡ g k) → flat_map f (range_with_len a n) ≡ flat_map g (range_with_len a n)
joined_like f g a zero same = refl
joined_like f g a (suc n) same = ap₂ (λ x xs. x ++ xs) (same a (omega arith) (omega arith)) (joined_like f g (a + 1) n (λ k l h. same k (omega arith) (omega arith)))

-- the room of a statement, from its table of letters by pair
pub depth_is : (n : Sheet) (deals : Deals) (s : Said) (boards : ℕ) (counts : List (List ℕ)) → boards ≡ boards_of n.grid → boards ≤ 8 → counts ≡ pairs_of n deals s → greatest_room s.mode boards counts ≡ statement_depth n.grid deals s
depth_is n deals s boards counts all few table =
    ap greatest (joined_like (rooms_from s.mode boards counts) (λ p. map (λ q. room_for s.mode (between p q letters)) (range_with_len 0 boards)) 0 boards rooms)
    ∙ ap (λ m. greatest (flat_map (λ p. map (λ q. room_for s.mode (between p q letters)) (range_with_len 0 m)) (range_with_len 0 m))) all
  where
    letters : List (ℕ × ℕ)
    letters = letters_in (seat n.grid.rows deals 0) s

    number : (p q : ℕ) → p < 8 → q < 8 → count_at counts p q ≡ between p q (letters_in (seat n.grid.rows deals 0) s)
    number p q hp hq =
        ap (λ t. count_at t p q) table
        ∙ ap (λ r. get_or r q 0) (get_or-map-range_with_len (λ a. map (λ b. between a b (letters_in (seat n.grid.rows deals 0) s)) (range_with_len 0 8)) 0 8 p p [] hp (omega arith))
        ∙ get_or-map-range_with_len (λ b. between p b (letters_in (seat n.grid.rows deals 0) s)) 0 8 q q 0 hq (omega arith)

    rooms : (p : ℕ) → 0 ≤ p → p < 0 + boards → rooms_from s.mode boards counts p ≡ map (λ q. room_for s.mode (between p q (letters_in (seat n.grid.rows deals 0) s))) (range_with_len 0 boards)
    rooms p l h = map_like (room_of s.mode counts p) (λ q. room_for s.mode (between p q (letters_in (seat n.grid.rows deals 0) s))) 0 boards (λ q k g. ap (room_for s.mode) (number p q (omega arith) (omega arith)))
