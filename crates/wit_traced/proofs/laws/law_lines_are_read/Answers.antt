use Rattle.wit_traced.proofs.Examples.{lines-read}
use Rattle.wit_traced.proofs.laws.law_lines_are_read.Goals as goal

pub returns : goal.returns
returns c = lines-read
