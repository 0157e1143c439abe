use Rattle.std.proofs.Common.{rules}
use Rattle.schedule.proofs.CarriedOut.{events_are_carried_out}
use Rattle.schedule.proofs.OneSchedule.{one_schedule}
use Rattle.schedule.proofs.StatementsHappen.{statements_happen}
use Rattle.schedule.proofs.law.room_enough.Goals as goal

pub returns : goal.returns
returns g c = record { answer = search rules; law = one_schedule g.row.V.Denot (events_are_carried_out g.row.V.Denot) (statements_happen g.row.V.Denot) }
