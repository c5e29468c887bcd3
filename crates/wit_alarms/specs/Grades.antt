-- What a grade says of facts.
use Rattle.std.specs.Prelude.{◌≡◌, ℕ, Bool, true, false, not, List}
use Rattle.wit_alarms.specs.declared.facts.Fact.{Fact}
use Rattle.wit_alarms.specs.declared.facts.Lives.{Lives}
use Rattle.wit_alarms.specs.declared.facts.Reasons.{Reasons}
use Rattle.wit_alarms.specs.declared.grade.Reason.{Reason}
use Rattle.wit_alarms.specs.declared.grade.Reason.TheVariants.{OneThread, Gate, Readers, Limit, Apart}
use Rattle.wit_alarms.specs.declared.grade.Reason.TheVariants.{Waits}
use Rattle.wit_alarms.specs.declared.grade.Cause.{Cause}
use Rattle.wit_alarms.specs.declared.grade.Cause.TheVariants.{TypesAlone, Kept, Several}
use Rattle.wit_alarms.specs.declared.grade.Grade.{Grade}
use Rattle.wit_alarms.specs.declared.grade.Grade.TheVariants.{Same, Never, NotKnown}
use Rattle.wit_alarms.specs.Facts.{closes, all_reasons, no_reasons, NoneCloses}

-- all reasons but this one
abbrev pub all_but : Reason → Reasons
all_but OneThread = record all_reasons { one_thread = false }
all_but Gate = record all_reasons { gate = false }
all_but Readers = record all_reasons { readers = false }
all_but Limit = record all_reasons { timed = false }
all_but Apart = record all_reasons { apart = false }
all_but Waits = record all_reasons { waits = false }

-- this reason, and no other
abbrev pub only : Reason → Reasons
only OneThread = record no_reasons { one_thread = true }
only Gate = record no_reasons { gate = true }
only Readers = record no_reasons { readers = true }
only Limit = record no_reasons { timed = true }
only Apart = record no_reasons { apart = true }
only Waits = record no_reasons { waits = true }

-- whether this reason by itself keeps the circle from closing
abbrev pub keeps_alone : Reason → Lives → List Fact → List ℕ → Bool
keeps_alone reason lives facts circle = not (closes (only reason) lives facts circle)

-- why no circle closes: there is none of single locks; or there is one that only this reason keeps
-- from it; or there is one, but none that a single reason keeps from it
abbrev pub IsCause : Lives → List Fact → Cause → Type 0
IsCause lives facts TypesAlone = NoneCloses no_reasons lives facts
IsCause lives facts (Kept reason circle) = closes (all_but reason) lives facts circle.items ≡ true
IsCause lives facts (Several circle) =
    (closes no_reasons lives facts circle.items ≡ true)
    × ((reason : Reason) → NoneCloses (all_but reason) lives facts)

-- the grade of facts, which are all that there are, or not: a circle that closes, if there is one
-- among them; else, where others may be missing, it isn't known; else none does, for this cause
abbrev pub IsGrade : Lives → List Fact → Bool → Grade → Type 0
IsGrade lives facts whole (Same circle) = closes all_reasons lives facts circle.items ≡ true
IsGrade lives facts whole (Never cause) =
    (whole ≡ true) × (NoneCloses all_reasons lives facts × IsCause lives facts cause)
IsGrade lives facts whole NotKnown = (whole ≡ false) × NoneCloses all_reasons lives facts
