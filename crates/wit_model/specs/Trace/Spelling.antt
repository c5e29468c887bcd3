-- The one spelling of each line of a trace.
use Rattle.std.specs.Prelude.{◌≡◌, ℕ, ◌%◌, ◌/◌, ◌^◌, ◌<◌, List, [], ◌∷◌, ◌++◌, length, Option, Some}
use Rattle.std.specs.Prelude.{None, IfSome, IsTrue, codes, ◌==◌, if◌then◌else◌}
use Rattle.std.specs.Fmt.{decimal}
use Rattle.std.specs.List.{list_all}
use Rattle.wit_model.specs.declared.lines.Line.{Line}
use Rattle.wit_model.specs.declared.lines.Line.TheVariants.{Header, Profile, Order, Bless, Init}
use Rattle.wit_model.specs.declared.lines.Line.TheVariants.{OnLock, Assert, Warn, Define, Watch}
use Rattle.wit_model.specs.declared.lines.LockLine.{LockLine}
use Rattle.wit_model.specs.declared.lines.LockLine.TheVariants.{Check, Try, Unlock, Plain, Step}
use Rattle.wit_model.specs.declared.lines.Version.{Version}
use Rattle.wit_model.specs.declared.lines.Version.TheVariants.{One, Two}
use Rattle.wit_model.specs.declared.lines.Verb.{Verb}
use Rattle.wit_model.specs.declared.lines.Verb.TheVariants.{Note, GiveUp, Destroy, Upgrade}
use Rattle.wit_model.specs.declared.lines.Verb.TheVariants.{Downgrade, NoRelease, ReleaseOk}
use Rattle.wit_model.specs.declared.lines.Keyword.{Keyword}
use Rattle.wit_model.specs.declared.lines.Keyword.TheVariants as keyword
use Rattle.wit_model.specs.declared.raw_steps.RawStep.{RawStep}
use Rattle.wit_model.specs.declared.raw_steps.RawStep.TheVariants as raw_step
use Rattle.wit_model.specs.declared.calls.NewLock.{NewLock}
use Rattle.wit_model.specs.declared.locks.LockNo.{LockNo}
use Rattle.wit_model.specs.declared.locks.Class.{Class}
use Rattle.wit_model.specs.declared.locks.Class.TheVariants.{SleepMutex, SpinMutex, Rw, Sx}
use Rattle.wit_model.specs.declared.locks.Mode.{Mode}
use Rattle.wit_model.specs.declared.locks.Mode.TheVariants.{Shared, Exclusive}
use Rattle.wit_model.specs.declared.locks.Watch as level
use Rattle.wit_model.specs.declared.locks.Watch.TheVariants.{On, Quiet, Off}
use Rattle.wit_model.specs.Rules.Names.{is_name, is_file_name}

-- a version of the format
abbrev pub version_text : Version → List ℕ
version_text One = codes "1"
version_text Two = codes "2"

-- the keyword of each verb
abbrev pub verb_text : Verb → List ℕ
verb_text Note = codes "lock"
verb_text GiveUp = codes "giveup"
verb_text Destroy = codes "destroy"
verb_text Upgrade = codes "upgrade"
verb_text Downgrade = codes "downgrade"
verb_text NoRelease = codes "norelease"
verb_text ReleaseOk = codes "releaseok"

-- the keywords of all lines
abbrev pub keyword_text : Keyword → List ℕ
keyword_text keyword.Header = codes "witness-trace"
keyword_text keyword.Profile = codes "profile"
keyword_text keyword.Order = codes "order"
keyword_text keyword.Bless = codes "bless"
keyword_text keyword.Init = codes "init"
keyword_text keyword.Check = codes "check"
keyword_text keyword.Try = codes "try"
keyword_text keyword.Unlock = codes "unlock"
keyword_text (keyword.Plain verb) = verb_text verb
keyword_text keyword.Take = codes "take"
keyword_text keyword.TryTake = codes "trytake"
keyword_text keyword.Free = codes "free"
keyword_text keyword.RawUp = codes "rawup"
keyword_text keyword.RawDown = codes "rawdown"
keyword_text keyword.Assert = codes "assert"
keyword_text keyword.Warn = codes "warn"
keyword_text keyword.Define = codes "define"
keyword_text keyword.Watch = codes "watch"

-- a class
abbrev pub class_text : Class → List ℕ
class_text SleepMutex = codes "mtx"
class_text SpinMutex = codes "spin"
class_text Rw = codes "rw"
class_text Sx = codes "sx"

-- a mode
abbrev pub mode_text : Mode → List ℕ
mode_text Shared = codes "s"
mode_text Exclusive = codes "x"

-- how much the verifier does: the numbers of the sysctl debug.witness.watch of witness(4)
abbrev pub level_text : level.Watch → List ℕ
level_text On = codes "1"
level_text Quiet = codes "0"
level_text Off = codes "-1"

-- the letters of the flags of a lock, of a request, of an assertion and of a warning, from the
-- lowest bit on
abbrev pub lock_letters : List ℕ
lock_letters = codes "rd"

abbrev pub op_letters : List ℕ
op_letters = codes "ndf"

abbrev pub assert_letters : List ℕ
assert_letters = codes "ulsxrn"

abbrev pub warn_letters : List ℕ
warn_letters = codes "gs"

-- the number of a lock, 0 where none is named
abbrev pub number_if_any : Option LockNo → ℕ
number_if_any None = 0
number_if_any (Some lock) = lock.0

-- the letters whose bits are set, in their order
abbrev pub chosen_letters : List ℕ → ℕ → List ℕ
chosen_letters [] bits = []
chosen_letters (letter ∷ letters) bits =
    if bits % 2 == 1 then letter ∷ chosen_letters letters (bits / 2)
    else chosen_letters letters (bits / 2)

-- flags: a dash where none is set
abbrev pub flags_text : List ℕ → ℕ → List ℕ
flags_text letters bits = if bits == 0 then codes "-" else chosen_letters letters bits

-- a name, between quotation marks
abbrev pub quoted : List ℕ → List ℕ
quoted name = 34 ∷ (name ++ 34 ∷ [])

-- a place in the watched program: a file, a colon, a line
abbrev pub site_text : List ℕ → ℕ → List ℕ
site_text file line = file ++ 58 ∷ decimal line

-- fields, each behind one space
abbrev pub spaced : List (List ℕ) → List ℕ
spaced [] = []
spaced (field ∷ fields) = 32 ∷ (field ++ spaced fields)

-- the last field of `init`, which may be absent
abbrev pub type_field : Option (List ℕ) → List (List ℕ)
type_field None = []
type_field (Some name) = quoted name ∷ []

-- what a new lock is to be
abbrev pub lock_fields : NewLock → List (List ℕ)
lock_fields lock =
    class_text lock.class ∷ flags_text lock_letters lock.flags.0 ∷ quoted lock.name
    ∷ type_field lock.type_name

-- types, each by its class and its name
abbrev pub list_fields : List (Class × List ℕ) → List (List ℕ)
list_fields [] = []
list_fields (entry ∷ entries) = class_text entry.0 ∷ quoted entry.1 ∷ list_fields entries

-- the keyword of a step of the lock itself, and its field behind the lock
abbrev pub step_keyword : RawStep → Keyword
step_keyword raw_step.Take = keyword.Take
step_keyword (raw_step.TryTake mode) = keyword.TryTake
step_keyword raw_step.Free = keyword.Free
step_keyword raw_step.Up = keyword.RawUp
step_keyword raw_step.Down = keyword.RawDown

abbrev pub step_field : RawStep → List (List ℕ)
step_field (raw_step.TryTake mode) = mode_text mode ∷ []
step_field _ = []

-- the keyword of a line on a lock, and its fields
abbrev pub lock_keyword : LockLine (List ℕ) → Keyword
lock_keyword (Check seat lock mode ops file line) = keyword.Check
lock_keyword (Try seat lock mode file line) = keyword.Try
lock_keyword (Unlock seat lock mode) = keyword.Unlock
lock_keyword (Plain verb seat lock) = keyword.Plain verb
lock_keyword (Step seat lock step) = step_keyword step

abbrev pub lock_line_fields : LockLine (List ℕ) → List (List ℕ)
lock_line_fields (Check seat lock mode ops file line) =
    decimal seat.0 ∷ decimal lock.0 ∷ mode_text mode ∷ flags_text op_letters ops.0
    ∷ site_text file line ∷ []
lock_line_fields (Try seat lock mode file line) =
    decimal seat.0 ∷ decimal lock.0 ∷ mode_text mode ∷ site_text file line ∷ []
lock_line_fields (Unlock seat lock mode) = decimal seat.0 ∷ decimal lock.0 ∷ mode_text mode ∷ []
lock_line_fields (Plain verb seat lock) = decimal seat.0 ∷ decimal lock.0 ∷ []
lock_line_fields (Step seat lock step) = decimal seat.0 ∷ decimal lock.0 ∷ step_field step

-- a keyword, and fields behind it
abbrev pub with_keyword : Keyword → List (List ℕ) → List ℕ
with_keyword word fields = keyword_text word ++ spaced fields

-- a line, without the line feed that ends it
abbrev pub spelling : Line → List ℕ
spelling (Header version seats types locks chunks) =
    with_keyword keyword.Header
    (version_text version ∷ codes "seats" ∷ decimal seats ∷ codes "types" ∷ decimal types
    ∷ codes "locks" ∷ decimal locks ∷ codes "chunks" ∷ decimal chunks ∷ [])
spelling Profile = with_keyword keyword.Profile (codes "all" ∷ [])
spelling (Order list) = with_keyword keyword.Order (list_fields list)
spelling (Bless first second) = with_keyword keyword.Bless (quoted first ∷ quoted second ∷ [])
spelling (Init seat lock) = with_keyword keyword.Init (decimal seat.0 ∷ lock_fields lock)
spelling (OnLock line) = with_keyword (lock_keyword line) (lock_line_fields line)
spelling (Assert seat lock asserted) =
    with_keyword keyword.Assert
    (decimal seat.0 ∷ decimal lock.0 ∷ flags_text assert_letters asserted.0 ∷ [])
spelling (Warn seat lock flags) =
    with_keyword keyword.Warn
    (decimal seat.0 ∷ decimal (number_if_any lock) ∷ flags_text warn_letters flags.0 ∷ [])
spelling (Define seat first second) =
    with_keyword keyword.Define (decimal seat.0 ∷ decimal first.0 ∷ decimal second.0 ∷ [])
spelling (Watch seat watch) = with_keyword keyword.Watch (decimal seat.0 ∷ level_text watch ∷ [])

-- a lock that can be written: known flags, and true names
abbrev pub IsSpellableLock : NewLock → Type 0
IsSpellableLock lock =
    (lock.flags.0 < 4) × IsTrue (is_name lock.name)
    × IfSome lock.type_name (λ name. IsTrue (is_name name))

-- a list that can be written: one type or more, with true names
abbrev pub IsSpellableList : List (Class × List ℕ) → Type 0
IsSpellableList list =
    (0 < length list) × IsTrue (list_all (λ (entry : Class × List ℕ). is_name entry.1) list)

-- a lock that a warning can name: 0 would name none
abbrev pub IsNamed : LockNo → Type 0
IsNamed lock = (0 < lock.0) × (lock.0 < 2 ^ 32)

-- a line on a lock that can be written
abbrev pub IsSpellableOnLock : LockLine (List ℕ) → Type 0
IsSpellableOnLock (Check seat lock mode ops file line) =
    (seat.0 < 2 ^ 16) × (lock.0 < 2 ^ 32) × (ops.0 < 8)
    × IsTrue (is_file_name file) × (line < 2 ^ 32)
IsSpellableOnLock (Try seat lock mode file line) =
    (seat.0 < 2 ^ 16) × (lock.0 < 2 ^ 32) × IsTrue (is_file_name file) × (line < 2 ^ 32)
IsSpellableOnLock (Unlock seat lock mode) = (seat.0 < 2 ^ 16) × (lock.0 < 2 ^ 32)
IsSpellableOnLock (Plain verb seat lock) = (seat.0 < 2 ^ 16) × (lock.0 < 2 ^ 32)
IsSpellableOnLock (Step seat lock step) = (seat.0 < 2 ^ 16) × (lock.0 < 2 ^ 32)

-- a line that can be written: numbers within their types, known flags, true names
abbrev pub IsSpellable : Line → Type 0
IsSpellable (Header version seats types locks chunks) =
    (seats < 2 ^ 32) × (types < 2 ^ 32) × (locks < 2 ^ 32) × (chunks < 2 ^ 32)
IsSpellable Profile = Unit {0}
IsSpellable (Order list) = IsSpellableList list
IsSpellable (Bless first second) = IsTrue (is_name first) × IsTrue (is_name second)
IsSpellable (Init seat lock) = (seat.0 < 2 ^ 16) × IsSpellableLock lock
IsSpellable (OnLock line) = IsSpellableOnLock line
IsSpellable (Assert seat lock asserted) = (seat.0 < 2 ^ 16) × (lock.0 < 2 ^ 32) × (asserted.0 < 64)
IsSpellable (Warn seat lock flags) = (seat.0 < 2 ^ 16) × IfSome lock IsNamed × (flags.0 < 4)
IsSpellable (Define seat first second) =
    (seat.0 < 2 ^ 16) × (first.0 < 2 ^ 32) × (second.0 < 2 ^ 32)
IsSpellable (Watch seat watch) = seat.0 < 2 ^ 16

-- the bytes spell the line
abbrev pub Spells : List ℕ → Line → Type 0
Spells bytes line = (bytes ≡ spelling line) × IsSpellable line

-- the bytes spell no two lines
abbrev pub IsOneSpelling : Type 0
IsOneSpelling = (bytes : List ℕ) (a b : Line) → Spells bytes a → Spells bytes b → a ≡ b
