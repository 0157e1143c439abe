-- The rows of lanes are orderly: proved here, since their implementation of the post names the proof. Assumes nothing.
use Rattle.std.specs.Prelude.{ℕ, ◌≤◌, Bool, true, false, cond, ◌&&◌, List, [], length, take, nat_lt}
use Rattle.std.proofs.Common.{arith, length-take}
use Rattle.std.proofs.lemmas.Bool.{cond-false}
use Rattle.post.specs.Mail.{Orderly}
use Rattle.lanes.specs.declared.rings.Ring.{Ring}
use Rattle.lanes.specs.Lanes.{Within, ring_at, place, lanes_mail}

short_take : {V : Type 0} (d count : ℕ) (t : Bool) (letters : List V) → count ≤ d → length (cond t (take count letters) []) ≤ d
short_take d count true letters h = simp length-take (omega arith)
short_take d count false letters h = omega arith

pub lanes_orderly : {V : Type 0} (n d : ℕ) (rings : List Ring) (letters : List V) → Within d rings → Orderly (lanes_mail n d rings letters)
lanes_orderly n d rings letters within = record {
  short = λ p q. short_take d (ring_at rings (place n p q)).count (nat_lt p n && nat_lt q n) _ (within (place n p q)).0;
  inside = λ p q out. cond-false (nat_lt p n && nat_lt q n) _ [] out;
}
