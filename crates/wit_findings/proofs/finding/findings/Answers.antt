use Rattle.wit_stream.proofs.Runs.{run-end, run-lines}
use Rattle.wit_findings.specs.Findings.{FindsFrom}
use Rattle.wit_findings.specs.Runs.{known, nothing_told}
use Rattle.wit_findings.proofs.Runs.{none-bad}
use Rattle.wit_findings.proofs.Nothing.{nothing-where-refused, run-front}
use Rattle.wit_findings.proofs.finding.findings.Goals as goal

pub returns-in_err-machine-clause-err : goal.returns-in_err-machine-clause-err
returns-in_err-machine-clause-err g c = nothing-where-refused c.new-others.result _ _ _

pub returns-clause-err : goal.returns-clause-err
returns-clause-err g c = run-front c.in_ok-machine.machine c.in_ok-machine.ensures _ _ _ _ c.run.ensures.err

pub returns-clause-taken : goal.returns-clause-taken
returns-clause-taken g c =
    run-end known FindsFrom _ nothing_told c.in_ok-machine.ensures _ _ _ _ _ c.run.ensures.taken

pub returns-clause-told : goal.returns-clause-told
returns-clause-told g c = λ failed.
    run-lines known FindsFrom _ nothing_told c.in_ok-machine.ensures _ _ _ _ (c.run.ensures.told failed)

pub run-requires-clause-fresh : goal.run-requires-clause-fresh
run-requires-clause-fresh g c = none-bad c.in_ok-machine.machine c.in_ok-machine.ensures
