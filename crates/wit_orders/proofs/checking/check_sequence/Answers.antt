use Rattle.std.proofs.Common.{List, ℕ, ap}
use Rattle.std.specs.Global.{Vec}
use Rattle.wit_stream.proofs.Runs.{run-end, run-lines}
use Rattle.wit_orders.specs.Answers.{Seen, nothing_seen}
use Rattle.wit_orders.specs.Sequence.{written}
use Rattle.wit_orders.specs.Checking.{seen}
use Rattle.wit_orders.specs.Outputs.{AnswersFrom}
use Rattle.wit_orders.proofs.Silent.{silent}
use Rattle.wit_orders.proofs.checking.check_sequence.Goals as goal

-- what is seen where these are the types and no pair came
abbrev typed : List (Vec ℕ) → Seen
typed keys = record { types = written keys; pairs = 0 }

pub returns-clause-taken : goal.returns-clause-taken
returns-clause-taken g c =
    run-end seen AnswersFrom _ nothing_seen (ap typed c.new.ensures.empty) _ _ _ _ _ c.run.ensures.taken

pub returns-clause-silent : goal.returns-clause-silent
returns-clause-silent g c = λ is.
    silent nothing_seen _ _ _ _
    (run-lines seen AnswersFrom _ nothing_seen (ap typed c.new.ensures.empty) _ _ _ _ (c.run.ensures.told is))
