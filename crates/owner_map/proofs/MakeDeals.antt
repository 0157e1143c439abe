-- The makes are deals in runs.
use Rattle.std.proofs.Common.{◌≡◌, ℕ, zero, suc, ◌+◌, ◌-◌, ◌/◌, ◌%◌, ◌<◌, ◌≤◌, List, ◌∷◌, map, sym, refl, ap, ◌∙◌, subst, ap₂, mod-lt, mod-eq_of_lt, suc-mul, mul_comm, div-add-mod', div-one, arith}
use native.Mathlib.Nat.{div-eq_of_lt, zero-mod, mod-one}
use Rattle.std.specs.List.{range_with_len}
use Rattle.std.proofs.lemmas.Nat.{div_below, le-div}
use Rattle.owner_map.specs.declared.makes.Make.{Make}
use Rattle.owner_map.specs.declared.makes.Make.TheVariants.{One, Block, Cyclic, CyclicBy}
use Rattle.owner_map.specs.Meaning.{Deal}
use Rattle.owner_map.specs.Rules.{dealt, deal_of, block_width, LeastWidth, Makeable, width_of}
use Rattle.owner_map.specs.MakeLaws.{MakesAgree}

same_rule : (f g : ℕ → ℕ) (a n : ℕ) → ((x : ℕ) → a ≤ x → x < a + n → f x ≡ g x) → map f (range_with_len a n) ≡ map g (range_with_len a n)
same_rule f g a zero same = refl
same_rule f g a (suc n) same =
    ap₂ {C = List ℕ} ◌∷◌ (same a (omega arith) (omega arith)) (same_rule f g (a + 1) n (λ x low high. same x (omega arith) (omega arith)))

-- Two rules that name one owner for each position make one deal.
pub same_deal : (p n : ℕ) (f g : ℕ → ℕ) → ((x : ℕ) → 1 ≤ x → x ≤ n → f x ≡ g x) → dealt p n f ≡ dealt p n g
same_deal p n f g same =
    let deal : List ℕ → Deal = λ os. record { boards = p; owners = os } in
    ap deal (same_rule f g 1 n (λ x low high. same x low (omega arith)))

module _ (p n : ℕ) (some-boards : 1 ≤ p) where
  least : LeastWidth p n (block_width p n)
  least =
      let whole = div-add-mod' (n + (p - 1)) p in
      let rest = mod-lt (n + (p - 1)) some-boards in
      (omega arith, λ c h. let l = div_below (n + (p - 1)) p (suc c) some-boards (omega (arith, suc-mul c p)) in omega arith)

  some_block : 1 ≤ n → 1 ≤ block_width p n
  some_block h = le-div 1 (n + (p - 1)) p some-boards (omega arith)

  -- Under block no position is left over for a second round.
  block_owner : (x : ℕ) → 1 ≤ x → x ≤ n → (x - 1) / block_width p n < p
  block_owner x low high =
      div_below (x - 1) (block_width p n) p (some_block (omega arith)) (omega (arith, least.0, mul_comm (block_width p n) p))

  block_is_runs : deal_of Block p n ≡ deal_of (CyclicBy (block_width p n)) p n
  block_is_runs = same_deal p n _ _ (λ x low high. sym (mod-eq_of_lt (block_owner x low high)))

cyclic_is_runs : (p n : ℕ) → deal_of Cyclic p n ≡ deal_of (CyclicBy 1) p n
cyclic_is_runs p n = same_deal p n _ _ (λ x low high. ap (λ m. m % p) (sym (div-one (x - 1))))

wide_is_one : (p n k : ℕ) → n ≤ k → deal_of (CyclicBy k) p n ≡ deal_of One p n
wide_is_one p n k h =
    same_deal p n _ _ (λ x low high. let within : x - 1 < k = omega arith in ap (λ q. q % p) (div-eq_of_lt within) ∙ zero-mod p)

single_is_one : (n : ℕ) (make : Make) → deal_of make 1 n ≡ deal_of One 1 n
single_is_one n One = refl
single_is_one n Block =
    same_deal 1 n _ _ (λ x low high. omega (arith, block_owner 1 n (omega arith) x low high))
single_is_one n Cyclic = same_deal 1 n _ _ (λ x low high. mod-one (x - 1))
single_is_one n (CyclicBy k) = same_deal 1 n _ _ (λ x low high. mod-one ((x - 1) / k))

pub makes_agree : (p n : ℕ) → 1 ≤ p → MakesAgree p n
makes_agree p n some-boards = record {
  block_is_least = least p n some-boards;
  block_is_runs = block_is_runs p n some-boards;
  cyclic_is_runs = cyclic_is_runs p n;
  wide_is_one = wide_is_one p n;
  single_is_one = λ e. subst (λ q. (make : Make) → deal_of make q n ≡ deal_of One q n) (sym e) (single_is_one n);
}

-- Every make deals in runs of its width.
make_is_runs : (make : Make) (p n : ℕ) → Makeable make p n → deal_of (CyclicBy (width_of make p n)) p n ≡ deal_of make p n
make_is_runs One p n can = wide_is_one p n n (omega arith)
make_is_runs Block p n can = sym (block_is_runs p n can.0.0)
make_is_runs Cyclic p n can = sym (cyclic_is_runs p n)
make_is_runs (CyclicBy k) p n can = refl

pub runs_are_make : (make : Make) (p n k : ℕ) → Makeable make p n → k ≡ width_of make p n → deal_of (CyclicBy k) p n ≡ deal_of make p n
runs_are_make make p n k can e =
    let deal : ℕ → Deal = λ w. deal_of (CyclicBy w) p n in
    ap deal e ∙ make_is_runs make p n can
