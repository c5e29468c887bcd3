-- The lines that grades are written as.
use Rattle.std.specs.Prelude.{ℕ, List, [], ◌∷◌, ◌++◌, map, codes}
use Rattle.std.specs.Fmt.{decimal}
use Rattle.wit_model.specs.Trace.Spelling.{spaced}
use Rattle.wit_alarms.specs.declared.grade.Reason.{Reason}
use Rattle.wit_alarms.specs.declared.grade.Reason.TheVariants.{OneThread, Gate, Readers, Limit, Apart}
use Rattle.wit_alarms.specs.declared.grade.Reason.TheVariants.{Waits}
use Rattle.wit_alarms.specs.declared.grade.Cause.{Cause}
use Rattle.wit_alarms.specs.declared.grade.Cause.TheVariants.{TypesAlone, Kept, Several}
use Rattle.wit_alarms.specs.declared.grade.Grade.{Grade}
use Rattle.wit_alarms.specs.declared.grade.Grade.TheVariants.{Same, Never, NotKnown}

-- places of facts, each after a space, and the end of the line
abbrev pub places_text : List ℕ → List ℕ
places_text places = spaced (map decimal places) ++ 10 ∷ []

abbrev pub reason_text : Reason → List ℕ
reason_text OneThread = codes "none thread"
reason_text Gate = codes "none gate"
reason_text Readers = codes "none readers"
reason_text Limit = codes "none timed"
reason_text Apart = codes "none apart"
reason_text Waits = codes "none waits"

abbrev pub none_text : Cause → List ℕ
none_text TypesAlone = codes "none types" ++ places_text []
none_text (Kept reason places) = reason_text reason ++ places_text places.items
none_text (Several places) = codes "none several" ++ places_text places.items

abbrev pub grade_text : Grade → List ℕ
grade_text (Same places) = codes "same" ++ places_text places.items
grade_text (Never cause) = none_text cause
grade_text NotKnown = codes "unknown" ++ places_text []
