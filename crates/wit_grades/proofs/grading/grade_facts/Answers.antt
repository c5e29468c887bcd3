use Rattle.std.proofs.Common.{◌≡◌, List, true, map, refl}
use Rattle.wit_stream.proofs.Runs.{run-end, run-lines}
use Rattle.wit_alarms.specs.declared.facts.Fact.{Fact}
use Rattle.wit_alarms.specs.declared.facts.Life.{Life}
use Rattle.wit_alarms.specs.declared.facts.Join.{Join}
use Rattle.wit_grades.specs.Reading.{shown}
use Rattle.wit_grades.specs.Grading.{told}
use Rattle.wit_grades.specs.Outputs.{Told, nothing_told, GradesFrom}
use Rattle.wit_grades.proofs.grading.grade_facts.Goals as goal

-- what is told where these are the makings, the joins and the facts
abbrev known : List Life → List Join → List Fact → Told
known made joined facts =
    record { made = made; joined = joined; facts = map shown facts; are_all = true }

pub returns-clause-taken : goal.returns-clause-taken
returns-clause-taken g c =
    let is : known c.new.result.items c.new-2.result.items c.new-3.result.items ≡ nothing_told =
    rw (c.new.ensures.items, c.new-2.ensures.items, c.new-3.ensures.items) refl in
    run-end told GradesFrom _ nothing_told is _ _ _ _ _ c.run.ensures.taken

pub returns-clause-told : goal.returns-clause-told
returns-clause-told g c = λ failed.
    let is : known c.new.result.items c.new-2.result.items c.new-3.result.items ≡ nothing_told =
    rw (c.new.ensures.items, c.new-2.ensures.items, c.new-3.ensures.items) refl in
    run-lines told GradesFrom _ nothing_told is _ _ _ _ (c.run.ensures.told failed)
