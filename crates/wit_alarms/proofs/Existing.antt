-- Facts have a grade.
use Rattle.std.proofs.Common.{ℕ, ◌^◌, ◌<◌, ◌⊎◌, Bool, true, false, List, length, refl, inl, inr}
use Rattle.std.proofs.Common.{⊎_elim, arith}
use Rattle.std.specs.Global.{Vec}
use Rattle.wit_alarms.specs.declared.facts.Fact.{Fact}
use Rattle.wit_alarms.specs.declared.facts.Lives.{Lives}
use Rattle.wit_alarms.specs.declared.facts.Reasons.{Reasons}
use Rattle.wit_alarms.specs.declared.grade.Reason.{Reason}
use Rattle.wit_alarms.specs.declared.grade.Reason.TheVariants.{OneThread, Gate, Readers, Limit, Apart}
use Rattle.wit_alarms.specs.declared.grade.Reason.TheVariants.{Waits}
use Rattle.wit_alarms.specs.declared.grade.Cause.{Cause}
use Rattle.wit_alarms.specs.declared.grade.Cause.TheVariants.{TypesAlone, Kept, Several}
use Rattle.wit_alarms.specs.declared.grade.Grade.{Grade}
use Rattle.wit_alarms.specs.declared.grade.Grade.TheVariants.{Same, Never, NotKnown}
use Rattle.wit_alarms.specs.Facts.{closes, all_reasons, no_reasons, NoneCloses}
use Rattle.wit_alarms.specs.Grades.{all_but, IsCause, IsGrade}
use Rattle.wit_alarms.proofs.Deciding.{Found, closes-or-none}

-- a vector with these elements, if there are few enough; one that there is gives its block
module _ {X : Type 0} (some : Vec X) where
  abbrev pub vec : {Y : Type 0} (items : List Y) → length items < 2 ^ 63 → Vec Y
  vec items few = record {
    ptr = some.ptr;
    len = length items;
    cap = length items;
    alloc = some.alloc;
    items = items;
    ok = (refl, omega arith);
    small = few;
  }

  module _ (lives : Lives) (facts : List Fact) (few : length facts < 2 ^ 63) where
    abbrev circle : (reasons : Reasons) → Found (closes reasons lives facts) (length facts) → Vec ℕ
    circle reasons found = vec found.xs (omega (arith, found.short, few))

    -- a reason that alone keeps one from closing, or none such among those that were tried
    abbrev Tried : Type 0
    Tried = (cause : Cause) × IsCause lives facts cause

    try : (reason : Reason) → Tried ⊎ NoneCloses (all_but reason) lives facts
    try reason =
        ⊎_elim
        (λ found. inl (Kept reason (circle (all_but reason) found), found.passes)) inr
        (closes-or-none (all_but reason) lives facts)

    none-of : NoneCloses (all_but OneThread) lives facts → NoneCloses (all_but Gate) lives facts
        → NoneCloses (all_but Readers) lives facts → NoneCloses (all_but Limit) lives facts
        → NoneCloses (all_but Apart) lives facts → NoneCloses (all_but Waits) lives facts
        → (reason : Reason) → NoneCloses (all_but reason) lives facts
    none-of a b c d e f OneThread = a
    none-of a b c d e f Gate = b
    none-of a b c d e f Readers = c
    none-of a b c d e f Limit = d
    none-of a b c d e f Apart = e
    none-of a b c d e f Waits = f

    only-reason : Found (closes no_reasons lives facts) (length facts) → Tried
    only-reason some =
        ⊎_elim (λ x. x)
        (λ a. ⊎_elim (λ x. x)
        (λ b. ⊎_elim (λ x. x)
        (λ c. ⊎_elim (λ x. x)
        (λ d. ⊎_elim (λ x. x)
        (λ e. ⊎_elim (λ x. x) (λ f. (Several (circle no_reasons some), (some.passes, none-of a b c d e f)))
        (try Waits)) (try Apart)) (try Limit)) (try Readers)) (try Gate)) (try OneThread)

    some-cause : Tried
    some-cause =
        ⊎_elim only-reason (λ none. (TypesAlone, none))
        (closes-or-none no_reasons lives facts)

    some-never : (whole : Bool) → NoneCloses all_reasons lives facts
        → (grade : Grade) × IsGrade lives facts whole grade
    some-never true none = (Never some-cause.0, (refl, (none, some-cause.1)))
    some-never false none = (NotKnown, (refl, none))

    pub some-grade : (whole : Bool) → (grade : Grade) × IsGrade lives facts whole grade
    some-grade whole =
        ⊎_elim (λ found. (Same (circle all_reasons found), found.passes)) (some-never whole)
        (closes-or-none all_reasons lives facts)
