use Rattle.wit_against.proofs.Clean.{no-circle}
use Rattle.wit_against.proofs.laws.law_nothing_against_has_no_circle.Goals as goal

pub returns : goal.returns
returns c = no-circle
