-- Each case that a call of a post returns, with its number and its values. Assumes nothing.
use Rattle.std.specs.Prelude.{ℕ, cond, ◌&&◌, nat_lt, Some, None, Ok, Err, Option, Result}
use Rattle.post.specs.declared.answers.Posted.{Posted}
use Rattle.post.specs.declared.answers.Posted.TheVariants.{Joined, Full}
use Rattle.post.specs.declared.answers.PostRefusal.{PostRefusal}
use Rattle.post.specs.declared.answers.PostRefusal.TheVariants.{NoSuchBoard}
use Rattle.post.specs.Mail.{Answer, joined, full, letter, none, waits, refused, no_such_board}

abbrev pub refusal : PostRefusal → ℕ
refusal NoSuchBoard = no_such_board

abbrev pub said_put : {V : Type 0} → Result Posted PostRefusal → Answer V
said_put (Ok Joined) = joined
said_put (Ok Full) = full
said_put (Err e) = refused (refusal e)

abbrev pub said_take : {V : Type 0} → Result (Option V) PostRefusal → Answer V
said_take (Ok None) = none
said_take (Ok (Some v)) = letter v
said_take (Err e) = refused (refusal e)

abbrev pub said_count : {V : Type 0} → Result ℕ PostRefusal → Answer V
said_count (Ok n) = waits n
said_count (Err e) = refused (refusal e)

-- Whether the pair p, q is one of n boards: nothing, or the refusal.
abbrev pub service : ℕ → ℕ → ℕ → Result (Unit {0}) PostRefusal
service n p q = cond (nat_lt p n && nat_lt q n) (Ok tt) (Err NoSuchBoard)
