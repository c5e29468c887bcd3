-- What the import tells of the lines that it took.
use Rattle.witness.proofs.Telling.{of-source, told-imported}
use Rattle.witness.proofs.machines.import_by.Goals as goal

pub returns-in-Plain-clause-told : goal.returns-in-Plain-clause-told
returns-in-Plain-clause-told g c = λ failed.
    of-source _ _ _ _ _ c.in-Plain.is (told-imported _ _ _ _ (c.import.ensures.told failed))
