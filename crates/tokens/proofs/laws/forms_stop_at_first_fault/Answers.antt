use Rattle.std.proofs.Common.{rules}
use Rattle.tokens.proofs.FormLaw.{form_law}
use Rattle.tokens.proofs.laws.forms_stop_at_first_fault.Goals as goal

pub returns : goal.returns
returns c = record { number = search rules; law = form_law }
