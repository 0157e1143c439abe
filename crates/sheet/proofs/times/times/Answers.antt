use Rattle.std.proofs.Common.{Ok, vec_items, sym, refl, subst, arith}
use Rattle.std.proofs.lemmas.Fn.{FoldsTo-push}
use Rattle.std.proofs.lemmas.Result.{err_from_is_err_and}
use Rattle.std.specs.List.{FoldsTo}
use Rattle.sheet.specs.Repeated.{Reads}
use Rattle.sheet.proofs.times.times.Goals as goal

pub returns-in_err-one : goal.returns-in_err-one
returns-in_err-one g c =
    let p = err_from_is_err_and c.from_residual.result c.from_residual.ensures.1 in
    rw (p.1, p.2) (λ _. (vec_items c.loop.values, c.loop.cursor, omega arith, c.loop.invariant.1, record { shown = _; shows = refl; left = _; met = c.in_err-one.ensures; leaves = refl }))

pub loop-preserved : goal.loop-preserved
loop-preserved g c = (
  omega (arith, c.in_ok-push.ensures.len),
  subst (λ l. FoldsTo (λ p v q. Reads g.F.Fn c.args.one p (Ok v) q) c.args.cursor.now l c.one.new.arg2) (sym c.in_ok-push.ensures.items)
      (FoldsTo-push _ _ _ _ _ _ c.loop.invariant.1 (record { shown = _; shows = refl; left = _; met = c.in_ok-one.ensures; leaves = refl })),
)
