-- When two posts mean the same, and what one changed row makes of a post. Assumes nothing.
use Rattle.std.proofs.Common.{◌≡◌, ℕ, List, refl, arith}
use Rattle.std.proofs.lemmas.Bool.Decides.{nat_tests}
use Rattle.std.proofs.lemmas.Grind.{common_steps}
use Rattle.post.specs.Mail.{Mail, with_row}

pub same_mail : {V : Type 0} (m n : Mail V) → m.boards ≡ n.boards → m.depth ≡ n.depth → ((p q : ℕ) → m.row p q ≡ n.row p q) → m ≡ n
same_mail m n b d r = λ i. record { boards = b i; depth = d i; row = λ p q. r p q i }

-- a post that agrees with m but in the row of one pair
pub one_row : {V : Type 0} (m n : Mail V) (p q : ℕ) (vs : List V) → n.boards ≡ m.boards → n.depth ≡ m.depth → n.row p q ≡ vs → ((s r : ℕ) → (s ≡ p → r ≡ q → ⊥) → n.row s r ≡ m.row s r) → n ≡ with_row m p q vs
one_row {V} m n p q vs b d new old = same_mail n (with_row m p q vs) b d λ s r. grind (arith, common_steps, nat_tests, old s r)

-- a row that is given back as it was
pub same_row : {V : Type 0} (m : Mail V) (p q : ℕ) (vs : List V) → m.row p q ≡ vs → m ≡ with_row m p q vs
same_row m p q vs e = one_row m m p q vs refl refl e (λ s r _. refl)
