use Rattle.std.proofs.Common.{◌≡◌, ◌*◌, ◌<◌, ◌≤◌}
use Rattle.owner_map.specs.Meaning.{sum_over, below, Bound}
use Rattle.owner_map.proofs.laws.counted_by_all.Given as goal

abbrev pub invariant-loop-board : goal.invariant-loop-board
invariant-loop-board g l =
    let d = g.M.OwnerMap.meaning l.map in
    (l.board-end ≡ d.boards) × (l.total ≤ 32 * l.board) × (l.total ≡ sum_over l.board (λ b. below d b l.bound)) × (0 < l.board → Bound d l.bound)
