use Rattle.wit_stream.proofs.Runs.{run-end, run-lines}
use Rattle.wit_import.specs.Importing.{seen}
use Rattle.wit_import.specs.Outputs.{ImportsFrom, nothing_seen}
use Rattle.wit_import.proofs.importing.import.Goals as goal

pub returns-clause-taken : goal.returns-clause-taken
returns-clause-taken g c =
    run-end seen ImportsFrom _ nothing_seen c.new-machine.ensures _ _ _ _ _ c.run-ended.ensures.taken

pub returns-clause-told : goal.returns-clause-told
returns-clause-told g c = λ failed.
    run-lines seen ImportsFrom _ nothing_seen c.new-machine.ensures _ _ _ _ (c.run-ended.ensures.told failed)
