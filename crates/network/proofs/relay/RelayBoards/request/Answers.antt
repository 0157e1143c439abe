use Rattle.std.proofs.Common.{arith, rules}
use Rattle.network.proofs.Passing.{told, refused, ended, take_waits, put_waits, starts, keeps, take_ran, put_ran}
use Rattle.network.proofs.relay.RelayBoards.request.Goals as goal

pub returns-then-board-self : goal.returns-then-board-self
returns-then-board-self c =
    let x = c.args.self.now in
    refused x.count x.desks c.args.board (omega arith)

pub returns-in-Adds-default : goal.returns-in-Adds-default
returns-in-Adds-default c =
    let x = c.args.self.now in
    let done = starts x.count x.desks c.args.board (omega arith) (omega arith) c.in-Adds-default.value (search rules) (omega arith) in
    told x.count x.desks c.args.board done (search rules)

pub returns-in_default : goal.returns-in_default
returns-in_default c =
    let x = c.args.self.now in
    take_waits x.count x.desks c.args.board (omega arith) c.in-Adds-default.value c.take.new.self (search rules) (omega arith) (search rules) (search rules)

pub returns-in-Some : goal.returns-in-Some
returns-in-Some c =
    let x = c.args.self.now in
    let done = take_ran x.count x.desks c.args.board (omega arith) (omega arith) c.in-Adds-default.value c.in-Some.sum c.take.new.self (search rules) (omega arith) (search rules) (search rules) in
    told x.count x.desks c.args.board done (search rules)

pub returns-in-Holds-default : goal.returns-in-Holds-default
returns-in-Holds-default c =
    let x = c.args.self.now in
    let done = keeps x.count x.desks c.args.board (omega arith) (omega arith) c.in-Holds-default.sum (search rules) (omega arith) in
    told x.count x.desks c.args.board done (search rules)

pub returns-in-Holds-Some : goal.returns-in-Holds-Some
returns-in-Holds-Some c =
    let x = c.args.self.now in
    put_waits x.count x.desks c.args.board (omega arith) c.in-Holds-default.sum c.in-Holds-Some.field-0-1 (search rules) (omega arith) (search rules)

pub returns-in-Holds-None : goal.returns-in-Holds-None
returns-in-Holds-None c =
    let x = c.args.self.now in
    let done = put_ran x.count x.desks c.args.board (omega arith) (omega arith) c.in-Holds-default.sum (search rules) (omega arith) (search rules) in
    told x.count x.desks c.args.board done (search rules)

pub returns-in-Done-default : goal.returns-in-Done-default
returns-in-Done-default c =
    let x = c.args.self.now in
    ended x.count x.desks c.args.board (omega arith) c.in-Done-default.field-0-0 (search rules)
