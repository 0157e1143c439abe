use Rattle.std.proofs.Common.{sym, arith}
use Rattle.owner_map.specs.Deals.{none_past_share}
use Rattle.sections.specs.MapTables.{tabled}
use Rattle.sections.proofs.Lookups.{share_small, positioned}
use Rattle.sections.proofs.lookup.MapTableOwnerMap.position.Goals as goal

pub returns-then-rank-share : goal.returns-then-rank-share
returns-then-rank-share c = (omega (arith, c.in_ok-check_board.ensures.0, c.numbers.ensures.0), sym (none_past_share (tabled c.args.self.now) c.args.board c.args.rank (omega (arith, c.if-rank-share.true, c.share.ensures))))

pub overflow_add-result : goal.overflow_add-result
overflow_add-result c = omega (arith, c.in_ok-check_board.ensures.0, c.numbers.ensures.0, c.if-rank-share.false, c.share.ensures, share_small (tabled c.args.self.now) c.args.self.now.sound c.args.board, c.args.self.now.sound.1)

pub bounds-self-board : goal.bounds-self-board
bounds-self-board c = omega (arith, c.in_ok-check_board.ensures.0, c.numbers.ensures.0, c.if-rank-share.false, c.share.ensures, share_small (tabled c.args.self.now) c.args.self.now.sound c.args.board, c.args.self.now.sound.1)

pub returns : goal.returns
returns c = (omega (arith, c.in_ok-check_board.ensures.0, c.numbers.ensures.0), positioned (tabled c.args.self.now) c.args.self.now.positions c.args.self.now.found c.args.board c.args.rank (omega (arith, c.if-rank-share.false, c.share.ensures)))
