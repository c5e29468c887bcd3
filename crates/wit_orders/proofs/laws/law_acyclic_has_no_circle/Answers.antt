use Rattle.std.proofs.Common.{arith}
use Rattle.wit_stream.specs.Text.{text_of}
use Rattle.wit_orders.specs.Answers.{nothing_seen}
use Rattle.wit_orders.proofs.Circles.{no-circle}
use Rattle.wit_orders.proofs.Whole.{all-said}
use Rattle.wit_orders.proofs.laws.law_acyclic_has_no_circle.Goals as goal

pub returns-clause-none : goal.returns-clause-none
returns-clause-none c = no-circle

pub returns-clause-all : goal.returns-clause-all
returns-clause-all c = λ input is.
    let all =
    all-said is.types is.pairs nothing_seen 1 (text_of input).lines (text_of input).tail is.answered
    in (all.whole, all.said, omega (arith, all.counted))
