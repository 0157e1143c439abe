-- What a changed ring and a changed letter mean for the rows of the lanes. Assumes nothing.
use Rattle.std.proofs.Common.{◌≡◌, ℕ, zero, suc, ◌+◌, ◌*◌, ◌<◌, ◌≤◌, Bool, true, false, cond, ◌&&◌, ltb, ◌≢◌, List, [], ◌∷◌, ◌++◌, length, take, drop, set, replicate, sym, refl, ap, ◌∙◌, ap₂, Ok, ◌==◌, arith, length-take, length-drop}
use Rattle.std.proofs.lemmas.List.{get_or-set_same, get_or-set_other}
use Rattle.std.proofs.lemmas.Bool.{and_parts, ltb-true}
use Rattle.std.proofs.lemmas.Bool.Decides.{nat_tests}
use Rattle.std.proofs.lemmas.Grind.{common_steps}
use Rattle.lanes.specs.declared.lanes.Lanes.{Lanes}
use Rattle.lanes.specs.declared.rings.Ring.{Ring}
use Rattle.lanes.specs.Lanes.{Within, Placed, ring_at, no_ring, place, lane, in_ring, lanes_mail}
use Rattle.post.specs.Mail.{Mail, empty_post, with_row, after_put, after_take}
use Rattle.post.proofs.Mails.{one_row, same_mail}
use Rattle.lanes.proofs.Turns.{ring_length}
use Rattle.post.proofs.Steps.{take_drops}
use Rattle.lanes.proofs.Places.{same_sender, same_receiver, lane_after, lane_written, lane_other}

-- a table of empty rings
no_ring_at : (size k : ℕ) → ring_at (replicate size no_ring) k ≡ no_ring
no_ring_at zero k = refl
no_ring_at (suc size) zero = refl
no_ring_at (suc size) (suc k) = no_ring_at size k

pub within_empty : (d size : ℕ) → Within d (replicate size no_ring)
within_empty d size k = rw (no_ring_at size k) (omega arith, λ h. h)

pub lanes_empty : {V : Type 0} {n d m e : ℕ} {rings : List Ring} (letters : List V) → n ≡ m → d ≡ e → rings ≡ replicate 64 no_ring → lanes_mail n d rings letters ≡ empty_post m e
lanes_empty {V} {n = n} {d = d} {rings = rings} letters same deep empty = same_mail (lanes_mail n d rings letters) (empty_post _ _) same deep λ p q. grind (arith, common_steps, ap (λ rs. ring_at rs (place n p q)) empty, no_ring_at 64 (place n p q))

module _ {V : Type 0} (n d p q pair : ℕ) (is : pair ≡ place n p q) (h : p < n) (k : q < n) where
  -- the row of a pair that is served is what its ring holds
  pub row_of : (rings : List Ring) (letters : List V) → (lanes_mail n d rings letters).row p q ≡ in_ring (ring_at rings pair) (lane d letters pair)
  row_of rings letters = grind (arith, common_steps, nat_tests)

  -- rings and letters that differ from others in the place of one pair change that pair's row
  pub row_changed :
      (rings changed : List Ring) (letters written vs : List V) →
      in_ring (ring_at changed pair) (lane d written pair) ≡ vs →
      ((j : ℕ) → j ≢ pair → ring_at changed j ≡ ring_at rings j) →
      ((j : ℕ) → j ≢ pair → lane d written j ≡ lane d letters j) →
      lanes_mail n d changed written ≡ with_row (lanes_mail n d rings letters) p q vs
  row_changed rings changed letters written vs new same-rings same-lanes =
      one_row (lanes_mail n d rings letters) (lanes_mail n d changed written) p q vs refl refl (row_of changed written ∙ new) λ s r ne. go s r ne (ltb s n && ltb r n) (λ e. e)
    where
      row : List Ring → List V → ℕ → ℕ → List V
      row rs ls s r = in_ring (ring_at rs (place n s r)) (lane d ls (place n s r))

      go : (s r : ℕ) → (s ≡ p → r ≡ q → ⊥) → (t : Bool) → (t ≡ true → (ltb s n && ltb r n) ≡ true) → cond t (row changed written s r) [] ≡ cond t (row rings letters s r) []
      go s r ne false e = refl
      go s r ne true e =
          let inside = ltb-true r n (and_parts (ltb s n) (ltb r n) (e refl)).1 in
          let apart : place n s r ≢ pair = λ f. ne (same_sender n p q s r k inside (f ∙ is)) (same_receiver n p q s r k inside (f ∙ is)) in
          ap₂ in_ring (same-rings (place n s r) apart) (same-lanes (place n s r) apart)

-- a row with itself in its place
row_kept : {V : Type 0} (m : Mail V) (p q : ℕ) → with_row m p q (m.row p q) ≡ m
row_kept m p q = sym (one_row m m p q (m.row p q) refl refl refl λ s r ne. refl)

-- a put on a pair that is served, by the row that it leaves
put_leaves :
    {V : Type 0} (m : Mail V) (p q : ℕ) → p < m.boards → q < m.boards → (v : V) (vs : List V) →
    vs ≡ cond (length (m.row p q) == m.depth) (m.row p q) (m.row p q ++ (v ∷ [])) → with_row m p q vs ≡ after_put m p q v
put_leaves m p q h k v vs e = grind (arith, common_steps, nat_tests, row_kept m p q)

-- lanes, and the place of a pair that is served
module _ {V : Type 0} (l : Lanes V) (p q pair : ℕ) (at-place : Placed l.boards p q (Ok pair)) where
  abbrev n : ℕ
  n = l.boards

  abbrev d : ℕ
  d = l.depth

  abbrev rings : List Ring
  rings = l.rings

  abbrev letters : List V
  letters = l.letters.now

  h : p < n
  h = at-place.0.0

  k : q < n
  k = at-place.0.1

  is : pair ≡ place n p q
  is = at-place.1

  abbrev ring : Ring
  ring = ring_at rings pair

  abbrev mail : Mail V
  mail = lanes_mail n d rings letters

  -- the table with another ring for the pair
  other_rings : (new : Ring) (j : ℕ) → j ≢ pair → ring_at (set rings pair new) j ≡ ring_at rings j
  other_rings new j ne = get_or-set_other rings pair j new no_ring ne

  new_ring : (new : Ring) → ring_at (set rings pair new) pair ≡ new
  new_ring new = get_or-set_same rings pair new no_ring (omega (arith, at-place.3, l.table))

  -- the lane of the pair, as it is handed over
  module _ (start deep : ℕ) (begins : start ≡ pair * d) (as-deep : deep ≡ d) where
    abbrev handed : List V
    handed = take deep (drop start letters)

    room : pair * d + d ≤ length letters
    room = omega (arith, lane_after d pair (n * n) at-place.2, l.room)

    row_is : mail.row p q ≡ in_ring ring handed
    row_is = row_of n d p q pair is h k rings letters ∙ ap₂ (λ x y. in_ring ring (take x (drop y letters))) (sym as-deep) (sym begins)

    handed_length : length handed ≡ d
    handed_length = simp (length-take, length-drop) (omega (arith, room))

    row_length : length (mail.row p q) ≡ ring.count
    row_length = ap length row_is ∙ ring_length handed ring (omega (arith, handed_length, l.within pair))

    -- another ring and other letters for the pair
    module _ (new : Ring) (written : List V) (same : length written ≡ length handed) where
      abbrev changed : Mail V
      changed = lanes_mail n d (set rings pair new) (take start letters ++ (written ++ drop deep (drop start letters)))

      pair_changed : changed ≡ with_row mail p q (in_ring new written)
      pair_changed =
          let long = same ∙ handed_length in
          row_changed n d p q pair is h k rings (set rings pair new) letters _ (in_ring new written)
          (ap₂ in_ring (new_ring new) (lane_written d pair start deep letters written begins as-deep room long))
          (other_rings new) (lane_other d pair start deep letters written begins as-deep room long)

      pub lanes_put : (v : V) → in_ring new written ≡ cond (ring.count == length handed) (in_ring ring handed) (in_ring ring handed ++ (v ∷ [])) → changed ≡ after_put mail p q v
      lanes_put v e =
          pair_changed
          ∙ put_leaves mail p q h k v (in_ring new written) (e ∙ λ i. cond (sym row_length i == handed_length i) (sym row_is i) (sym row_is i ++ (v ∷ [])))

      pub lanes_take : in_ring new written ≡ drop 1 (in_ring ring handed) → changed ≡ after_take mail p q
      lanes_take e = pair_changed ∙ ap (with_row mail p q) (e ∙ sym (ap (drop 1) row_is)) ∙ take_drops mail p q h k
