use Rattle.wit_stream.proofs.Runs.{run-end, run-lines}
use Rattle.wit_against.specs.declared.judging.Judging.{Judging}
use Rattle.wit_against.specs.Known.{Known, nothing_known}
use Rattle.wit_against.specs.Judging.{known}
use Rattle.wit_against.specs.Outputs.{JudgesFrom}
use Rattle.wit_against.proofs.judging.judge_orders.Goals as goal

abbrev seen : Judging → Known
seen m = known m.orders

pub returns-clause-taken : goal.returns-clause-taken
returns-clause-taken g c =
    run-end seen JudgesFrom _ nothing_known c.new.ensures _ _ _ _ _ c.run.ensures.taken

pub returns-clause-told : goal.returns-clause-told
returns-clause-told g c = λ failed.
    run-lines seen JudgesFrom _ nothing_known c.new.ensures _ _ _ _ (c.run.ensures.told failed)
