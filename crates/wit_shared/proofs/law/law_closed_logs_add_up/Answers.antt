use Rattle.wit_shared.proofs.Summing.{adds_up}
use Rattle.wit_shared.proofs.law.law_closed_logs_add_up.Goals as goal

pub returns : goal.returns
returns c = adds_up
