-- Reading a line of a trace from left to right: its keyword, and what stands behind it.
use Rattle.std.specs.Prelude.{◌≡◌, ◌↔◌, ℕ, List, length, Option, Some, None, codes, ◌==◌}
use Rattle.std.specs.Prelude.{if◌then◌else◌}
use Rattle.wit_model.specs.declared.lines.Line.{Line}
use Rattle.wit_model.specs.declared.lines.Line.TheVariants.{Header, Profile, Order, Bless, Init}
use Rattle.wit_model.specs.declared.lines.Line.TheVariants.{OnLock, Assert, Warn, Define, Watch}
use Rattle.wit_model.specs.declared.lines.LockLine.TheVariants.{Check, Try, Unlock, Plain, Step}
use Rattle.wit_model.specs.declared.lines.Verb.{Verb}
use Rattle.wit_model.specs.declared.lines.Keyword.{Keyword}
use Rattle.wit_model.specs.declared.lines.Keyword.TheVariants as keyword
use Rattle.wit_model.specs.declared.raw_steps.RawStep.{RawStep}
use Rattle.wit_model.specs.declared.raw_steps.RawStep.TheVariants as raw_step
use Rattle.wit_model.specs.declared.locks.LockNo.{LockNo}
use Rattle.wit_model.specs.Trace.Spelling.{Spells, lock_letters, op_letters, assert_letters}
use Rattle.wit_model.specs.Trace.Spelling.{warn_letters}
unfoldable pub use Rattle.wit_model.specs.Trace.Words.{◌>>=◌, after, byte_place, until}
unfoldable pub use Rattle.wit_model.specs.Trace.Words.{parted_before, parted_at_last, is_numeral}
unfoldable pub use Rattle.wit_model.specs.Trace.Words.{number_of, named, version_named, class_named}
unfoldable pub use Rattle.wit_model.specs.Trace.Words.{mode_named, level_named, keywords}
unfoldable pub use Rattle.wit_model.specs.Trace.Words.{keyword_named, bits_of, flags_of, accepted}
unfoldable pub use Rattle.wit_model.specs.Trace.Words.{site_of}
unfoldable pub use Rattle.wit_model.specs.Trace.Fields.{Reader, leading_word, field_at, fixed_at}
unfoldable pub use Rattle.wit_model.specs.Trace.Fields.{behind, leading_quoted, optional, repeated}
unfoldable pub use Rattle.wit_model.specs.Trace.Fields.{one_or_more, both, whole, leading_count}
unfoldable pub use Rattle.wit_model.specs.Trace.Fields.{leading_seat, leading_lock, leading_type}
unfoldable pub use Rattle.wit_model.specs.Trace.Fields.{whole_list}

-- a number behind a fixed word
abbrev pub labelled : List ℕ → Reader ℕ
labelled label = behind label leading_count

unfoldable pub header_of : List ℕ → Option Line
header_of bytes =
    whole (both (field_at version_named) (both (labelled (codes "seats"))
    (both (labelled (codes "types")) (both (labelled (codes "locks"))
    (labelled (codes "chunks")))))) bytes
    >>= λ x. Some (Header x.0 x.1.0 x.1.1.0 x.1.1.1.0 x.1.1.1.1)

unfoldable pub profile_of : List ℕ → Option Line
profile_of bytes =
    fixed_at (codes "all") bytes >>= λ rest. if length rest == 0 then Some Profile else None

unfoldable pub order_of : List ℕ → Option Line
order_of bytes = whole_list bytes >>= λ list. Some (Order list)

unfoldable pub bless_of : List ℕ → Option Line
bless_of bytes = whole (both leading_quoted leading_quoted) bytes >>= λ x. Some (Bless x.0 x.1)

unfoldable pub init_of : List ℕ → Option Line
init_of bytes =
    whole (both leading_seat (both (field_at class_named) (both (field_at (flags_of lock_letters))
    (both leading_quoted (optional leading_quoted))))) bytes
    >>= λ x. Some (Init (record { 0 = x.0 }) (record {
      class = x.1.0;
      flags = record { 0 = x.1.1.0 };
      name = x.1.1.1.0;
      type_name = x.1.1.1.1;
    }))

unfoldable pub check_of : List ℕ → Option Line
check_of bytes =
    whole (both leading_seat (both leading_lock (both (field_at mode_named)
    (both (field_at (flags_of op_letters)) (field_at site_of))))) bytes
    >>= λ x. Some (OnLock (Check (record { 0 = x.0 }) (record { 0 = x.1.0 })
    x.1.1.0 (record { 0 = x.1.1.1.0 }) x.1.1.1.1.0 x.1.1.1.1.1))

unfoldable pub try_of : List ℕ → Option Line
try_of bytes =
    whole (both leading_seat (both leading_lock (both (field_at mode_named) (field_at site_of))))
    bytes
    >>= λ x. Some (OnLock (Try (record { 0 = x.0 }) (record { 0 = x.1.0 })
    x.1.1.0 x.1.1.1.0 x.1.1.1.1))

unfoldable pub unlock_of : List ℕ → Option Line
unlock_of bytes =
    whole (both leading_seat (both leading_lock (field_at mode_named))) bytes
    >>= λ x. Some (OnLock (Unlock (record { 0 = x.0 }) (record { 0 = x.1.0 }) x.1.1))

unfoldable pub plain_of : Verb → List ℕ → Option Line
plain_of verb bytes =
    whole (both leading_seat leading_lock) bytes
    >>= λ x. Some (OnLock (Plain verb (record { 0 = x.0 }) (record { 0 = x.1 })))

-- a step that names nothing but a seat and a lock
unfoldable pub step_of : RawStep → List ℕ → Option Line
step_of step bytes =
    whole (both leading_seat leading_lock) bytes
    >>= λ x. Some (OnLock (Step (record { 0 = x.0 }) (record { 0 = x.1 }) step))

unfoldable pub try_take_of : List ℕ → Option Line
try_take_of bytes =
    whole (both leading_seat (both leading_lock (field_at mode_named))) bytes
    >>= λ x. Some (OnLock (Step (record { 0 = x.0 }) (record { 0 = x.1.0 })
    (raw_step.TryTake x.1.1)))

unfoldable pub assert_of : List ℕ → Option Line
assert_of bytes =
    whole (both leading_seat (both leading_lock (field_at (flags_of assert_letters)))) bytes
    >>= λ x. Some (Assert (record { 0 = x.0 }) (record { 0 = x.1.0 }) (record { 0 = x.1.1 }))

-- the lock with this number, none at 0
abbrev pub lock_if_any : ℕ → Option LockNo
lock_if_any n = if n == 0 then None else Some (record { 0 = n })

unfoldable pub warn_of : List ℕ → Option Line
warn_of bytes =
    whole (both leading_seat (both leading_lock (field_at (flags_of warn_letters)))) bytes
    >>= λ x. Some (Warn (record { 0 = x.0 }) (lock_if_any x.1.0) (record { 0 = x.1.1 }))

unfoldable pub define_of : List ℕ → Option Line
define_of bytes =
    whole (both leading_seat (both leading_lock leading_lock)) bytes
    >>= λ x. Some (Define (record { 0 = x.0 }) (record { 0 = x.1.0 }) (record { 0 = x.1.1 }))

unfoldable pub watch_line : List ℕ → Option Line
watch_line bytes =
    whole (both leading_seat (field_at level_named)) bytes >>= λ x.
    Some (Watch (record { 0 = x.0 }) x.1)

-- the fields of a line, by its keyword
abbrev pub fields_of : Keyword → List ℕ → Option Line
fields_of keyword.Header = header_of
fields_of keyword.Profile = profile_of
fields_of keyword.Order = order_of
fields_of keyword.Bless = bless_of
fields_of keyword.Init = init_of
fields_of keyword.Check = check_of
fields_of keyword.Try = try_of
fields_of keyword.Unlock = unlock_of
fields_of (keyword.Plain verb) = plain_of verb
fields_of keyword.Take = step_of raw_step.Take
fields_of keyword.TryTake = try_take_of
fields_of keyword.Free = step_of raw_step.Free
fields_of keyword.RawUp = step_of raw_step.Up
fields_of keyword.RawDown = step_of raw_step.Down
fields_of keyword.Assert = assert_of
fields_of keyword.Warn = warn_of
fields_of keyword.Define = define_of
fields_of keyword.Watch = watch_line

-- a line
unfoldable pub line_of : List ℕ → Option Line
line_of bytes = keyword_named (until 32 bytes).0 >>= λ word. fields_of word (until 32 bytes).1

-- reading finds what the bytes spell, and nothing else
abbrev pub ReadsSpellings : Type 0
ReadsSpellings = (bytes : List ℕ) (line : Line) → (line_of bytes ≡ Some line) ↔ Spells bytes line
