use Rattle.std.proofs.Common.{arith, rules}
use Rattle.network.proofs.Exchanging.{told, refused, ended, put_waits, put_ran, take_waits, take_ran}
use Rattle.network.proofs.pair.PairBoards.request.Goals as goal

pub returns-then-board-ge2 : goal.returns-then-board-ge2
returns-then-board-ge2 c = refused c.args.self.now.desks c.args.board (omega arith)

pub returns-in-Putting-Some : goal.returns-in-Putting-Some
returns-in-Putting-Some c =
    put_waits c.args.self.now.desks c.args.board (omega arith) c.in-Putting-Some.field-0-1 (search rules) (search rules)

pub returns-in-Putting-None : goal.returns-in-Putting-None
returns-in-Putting-None c =
    let x = c.args.self.now in
    told x.desks c.args.board (put_ran x.desks c.args.board (omega arith) x.both (search rules) (search rules)) (search rules)

pub returns-in_default : goal.returns-in_default
returns-in_default c =
    take_waits c.args.self.now.desks c.args.board (omega arith) c.take.new.self (search rules) (search rules) (search rules)

pub returns-in-Some : goal.returns-in-Some
returns-in-Some c =
    let x = c.args.self.now in
    told x.desks c.args.board (take_ran x.desks c.args.board (omega arith) x.both c.in-Some.letter c.take.new.self (search rules) (search rules) (search rules)) (search rules)

pub returns-in-Done-default : goal.returns-in-Done-default
returns-in-Done-default c = ended c.args.self.now.desks c.args.board (omega arith) (search rules)
