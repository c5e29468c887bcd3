-- What a machine's own call tells of the lines that it took.
use Rattle.witness.proofs.Telling.{of, told-found, told-graded, told-judged, told-merged, told-moved, told-shown}
use Rattle.witness.proofs.machines.run_on.Goals as goal

pub returns-in-Show-clause-told : goal.returns-in-Show-clause-told
returns-in-Show-clause-told g c = λ failed.
    of _ _ _ _ _ c.in-Show.is (told-shown _ _ _ _ _ (c.replay.ensures.told failed))

pub returns-in-Migrate-clause-told : goal.returns-in-Migrate-clause-told
returns-in-Migrate-clause-told g c = λ failed.
    of _ _ _ _ _ c.in-Migrate.is (told-moved _ _ _ _ (c.migrate.ensures.told failed))

pub returns-in-Grade-clause-told : goal.returns-in-Grade-clause-told
returns-in-Grade-clause-told g c = λ failed.
    of _ _ _ _ _ c.in-Grade.is (told-graded _ _ _ _ (c.grade_facts.ensures.told failed))

pub returns-in-Find-clause-told : goal.returns-in-Find-clause-told
returns-in-Find-clause-told g c = λ failed.
    of _ _ _ _ _ c.in-Find.is (told-found _ _ _ _ (c.findings.ensures.told failed))

pub returns-in-Judge-clause-told : goal.returns-in-Judge-clause-told
returns-in-Judge-clause-told g c = λ failed.
    of _ _ _ _ _ c.in-Judge.is (told-judged _ _ _ _ (c.judge_orders.ensures.told failed))

pub returns-in-Merge-clause-told : goal.returns-in-Merge-clause-told
returns-in-Merge-clause-told g c = λ failed.
    of _ _ _ _ _ c.in-Merge.is (told-merged _ _ _ _ _ (c.merge_orders.ensures.told failed))
