use Rattle.std.proofs.Common.{arith, rules}
use Rattle.network.proofs.Turning.{told, refused, ended, put_waits, take_waits, put_ran, take_ran}
use Rattle.network.proofs.ring.RingBoards.request.Goals as goal

pub returns-then-board-self : goal.returns-then-board-self
returns-then-board-self c = refused c.args.self.now c.args.board (omega arith)

pub returns-then-laps-eq0 : goal.returns-then-laps-eq0
returns-then-laps-eq0 c = ended c.args.self.now c.args.board (omega arith) (search rules)

pub returns-then-self-board : goal.returns-then-self-board
returns-then-self-board c =
    put_waits c.args.self.now c.args.board (omega arith) (search rules) (search rules) (omega arith)

pub returns-else-self-board : goal.returns-else-self-board
returns-else-self-board c =
    let done = put_ran c.args.self.now c.args.board (omega arith) (search rules) (search rules) (omega arith) in
    told c.args.self.now c.args.board done (search rules) (search rules)

pub returns-in_default : goal.returns-in_default
returns-in_default c =
    take_waits c.args.self.now c.args.board (omega arith) c.before-from.result c.before-from.ensures (search rules) (search rules) (search rules)

pub returns-in-Some : goal.returns-in-Some
returns-in-Some c =
    let done = take_ran c.args.self.now c.args.board (omega arith) c.before-from.result c.before-from.ensures c.in-Some.rest (search rules) (search rules) (search rules) (search rules) in
    told c.args.self.now c.args.board done (search rules) (search rules)
