-- Reading a line of a recording from left to right: its first word, and the fields after it.
use Rattle.std.specs.Prelude.{ℕ, Bool, true, false, ◌||◌, List, [], ◌∷◌, Option, Some, None, codes}
use Rattle.std.specs.Prelude.{unwrap_or, if◌then◌else◌}
use Rattle.std.specs.Str.{bytes_eq}
use Rattle.wit_model.specs.declared.locks.Mode.{Mode}
use Rattle.wit_model.specs.Trace.Reading.{◌>>=◌, until, named, class_named, mode_named}
use Rattle.wit_model.specs.Trace.Reading.{Reader, leading_word, field_at, fixed_at, both, optional}
use Rattle.wit_model.specs.Trace.Reading.{whole, leading_quoted, leading_count, leading_seat}
use Rattle.wit_model.specs.Trace.Reading.{leading_lock}
use Rattle.wit_recorded.specs.declared.lines.Asked.{Asked}
use Rattle.wit_recorded.specs.declared.lines.Line.{Line}
use Rattle.wit_recorded.specs.declared.lines.Line.TheVariants as said
use Rattle.wit_recorded.specs.declared.lines.Misuse.{Misuse}
use Rattle.wit_recorded.specs.declared.lines.Misuse.TheVariants as misuse
use Rattle.wit_recorded.specs.declared.lines.Word.{Word}
use Rattle.wit_recorded.specs.declared.lines.Word.TheVariants as word
use Rattle.wit_recorded.specs.Pairs.{lost_of, pair_of, pair_said, life_said, joined_said, three_of}

-- ---- words

abbrev pub word_text : Word → List ℕ
word_text word.Check = codes "check"
word_text word.Lock = codes "lock"
word_text word.Unlock = codes "unlock"
word_text word.Try = codes "try"
word_text word.GiveUp = codes "giveup"
word_text word.Init = codes "init"
word_text word.Name = codes "name"
word_text word.Thread = codes "thread"
word_text word.Asked = codes "asked"
word_text word.Look = codes "look"
word_text word.Process = codes "process"
word_text word.Error = codes "error"
word_text word.Again = codes "again"
word_text word.Foreign = codes "foreign"
word_text word.Pair = codes "pair"
word_text word.Many = codes "many"
word_text word.Life = codes "life"
word_text word.Joined = codes "joined"
word_text word.Grade = codes "grade"

-- the first word of a line that tells something
unfoldable pub word_named : List ℕ → Option Word
word_named =
    named word_text (word.Check ∷ word.Lock ∷ word.Unlock ∷ word.Try ∷ word.GiveUp ∷ word.Init
    ∷ word.Name ∷ word.Thread ∷ word.Asked ∷ word.Look ∷ word.Process ∷ word.Error ∷ word.Again
    ∷ word.Foreign ∷ word.Pair ∷ word.Many ∷ word.Life ∷ word.Joined ∷ word.Grade ∷ [])

-- that of one which is passed over: it declares code or types, ..
unfoldable pub is_declaring : List ℕ → Bool
is_declaring w =
    bytes_eq w (codes "program") || (bytes_eq w (codes "object") || (bytes_eq w (codes "called")
    || (bytes_eq w (codes "blind") || (bytes_eq w (codes "place") || (bytes_eq w (codes "either")
    || (bytes_eq w (codes "site") || (bytes_eq w (codes "stack") || (bytes_eq w (codes "type")
    || (bytes_eq w (codes "crowded")
    || bytes_eq w (codes "lent"))))))))))

-- .. or tells what no order of locks depends on
unfoldable pub is_aside : List ℕ → Bool
is_aside w =
    bytes_eq w (codes "time") || (bytes_eq w (codes "errand") || (bytes_eq w (codes "went")
    || (bytes_eq w (codes "answer") || (bytes_eq w (codes "holder")
    || bytes_eq w (codes "owner")))))

abbrev pub is_passed : List ℕ → Bool
is_passed w = is_declaring w || is_aside w

-- whether the lock is recursive; whether other processes may have it too is no matter here
unfoldable pub recursive_named : List ℕ → Option Bool
recursive_named w =
    if bytes_eq w (codes "-") then Some false else if bytes_eq w (codes "s") then Some false
    else if bytes_eq w (codes "r") then Some true else if bytes_eq w (codes "rs") then Some true
    else None

-- ---- fields

-- a place, and a stack, 0 where none follows
abbrev pub leading_where : Reader (ℕ × Option ℕ)
leading_where = both leading_count (optional leading_count)

-- what the request of a lock says of it
abbrev pub asked_by : ℕ → ℕ → Mode → ℕ × Option ℕ → Asked
asked_by seat lock mode at = record {
  seat = record { 0 = seat };
  lock = record { 0 = lock };
  mode = mode;
  place = at.0;
  stack = unwrap_or at.1 0;
}

-- `n` and `k` tell the builders of the recorder something
unfoldable pub manner_named : List ℕ → Option Bool
manner_named w =
    if bytes_eq w (codes "n") then Some true else if bytes_eq w (codes "k") then Some false
    else None

unfoldable pub check_of : List ℕ → Option Line
check_of bytes =
    whole (both leading_seat (both leading_lock (both (field_at mode_named)
    (both (field_at manner_named) leading_where)))) bytes
    >>= λ x. Some (said.Check (asked_by x.0 x.1.0 x.1.1.0 x.1.1.1.1))

unfoldable pub try_of : List ℕ → Option Line
try_of bytes =
    whole (both leading_seat (both leading_lock (both (field_at mode_named) leading_where))) bytes
    >>= λ x. Some (said.Try (asked_by x.0 x.1.0 x.1.1.0 x.1.1.1))

unfoldable pub lock_of : List ℕ → Option Line
lock_of bytes =
    whole (both leading_seat leading_lock) bytes
    >>= λ x. Some (said.Lock (record { 0 = x.0 }) (record { 0 = x.1 }))

unfoldable pub give_up_of : List ℕ → Option Line
give_up_of bytes =
    whole (both leading_seat leading_lock) bytes
    >>= λ x. Some (said.GiveUp (record { 0 = x.0 }) (record { 0 = x.1 }))

unfoldable pub unlock_of : List ℕ → Option Line
unlock_of bytes =
    whole (both leading_seat (both leading_lock (field_at mode_named))) bytes
    >>= λ x. Some (said.Unlock (record { 0 = x.0 }) (record { 0 = x.1.0 }) x.1.1)

-- the number of the lock among those of its type follows, and the variable that it is
unfoldable pub init_of : List ℕ → Option Line
init_of bytes =
    both leading_seat (both (field_at class_named) (both (field_at recursive_named)
    (both leading_count leading_count))) bytes
    >>= λ x. Some (said.Init (record { 0 = x.0.0 }) x.0.1.0 x.0.1.1.0 x.0.1.1.1.0)

unfoldable pub name_of : List ℕ → Option Line
name_of bytes =
    whole (both leading_count leading_quoted) bytes >>= λ x. Some (said.Name x.0 x.1)

-- its name and where it was made stand between them
unfoldable pub thread_of : List ℕ → Option Line
thread_of bytes =
    whole (both leading_seat (both leading_word (both leading_count leading_count))) bytes
    >>= λ x. Some (said.Thread (record { 0 = x.0 }) x.1.1.1)

-- what is asked, and the version of the recording; what it lacks follows
unfoldable pub begun_of : List ℕ → Option Line
begun_of bytes =
    leading_count bytes >>= λ asked. fixed_at (codes "version") asked.1 >>= λ rest.
    leading_count rest >>= λ version.
    Some (said.Begun version.0 (unwrap_or (lost_of version.1) false))

unfoldable pub look_of : List ℕ → Option Line
look_of [] = Some said.Look
look_of (b ∷ bytes) = None

unfoldable pub process_of : List ℕ → Option Line
process_of bytes = whole leading_count bytes >>= λ process. Some (said.Process process)

abbrev pub misuse_text : Misuse → List ℕ
misuse_text misuse.Ended = codes "ended"
misuse_text misuse.Destroyed = codes "destroyed"
misuse_text misuse.Freed = codes "freed"
misuse_text misuse.Remade = codes "remade"
misuse_text misuse.Waited = codes "waited"
misuse_text misuse.Reread = codes "reread"
misuse_text misuse.Again = codes "again"
misuse_text misuse.Foreign = codes "foreign"

-- the errors that a line names after its first word
unfoldable pub misuse_named : List ℕ → Option Misuse
misuse_named =
    named misuse_text (misuse.Ended ∷ misuse.Destroyed ∷ misuse.Freed ∷ misuse.Remade
    ∷ misuse.Waited ∷ misuse.Reread ∷ [])

unfoldable pub misuse_of : Misuse → List ℕ → Option Line
misuse_of what bytes =
    whole (both leading_seat (both leading_lock leading_count)) bytes
    >>= λ x. Some (said.Error what (record { 0 = x.0 }) (record { 0 = x.1.0 }) x.1.1)

unfoldable pub error_of : List ℕ → Option Line
error_of bytes = field_at misuse_named bytes >>= λ what. misuse_of what.0 what.1

unfoldable pub grade_of : List ℕ → Option Line
grade_of bytes = whole leading_count bytes >>= λ line. Some (said.Grade line)

-- ---- a line

-- the fields of a line, by its first word
abbrev pub fields_of : Word → List ℕ → Option Line
fields_of word.Check = check_of
fields_of word.Lock = lock_of
fields_of word.Unlock = unlock_of
fields_of word.Try = try_of
fields_of word.GiveUp = give_up_of
fields_of word.Init = init_of
fields_of word.Name = name_of
fields_of word.Thread = thread_of
fields_of word.Asked = begun_of
fields_of word.Look = look_of
fields_of word.Process = process_of
fields_of word.Error = error_of
fields_of word.Again = misuse_of misuse.Again
fields_of word.Foreign = misuse_of misuse.Foreign
fields_of word.Pair = λ bytes. Some (pair_said (pair_of bytes))
fields_of word.Many = λ bytes. Some said.Many
fields_of word.Life = λ bytes. Some (life_said (three_of bytes))
fields_of word.Joined = λ bytes. Some (joined_said (three_of bytes))
fields_of word.Grade = grade_of

abbrev pub fields_by : Option Word → List ℕ → List ℕ → Option Line
fields_by None w rest = if is_passed w then Some said.Passed else None
fields_by (Some word) w rest = fields_of word rest

-- what a line says
unfoldable pub line_of : List ℕ → Option Line
line_of bytes =
    fields_by (word_named (until 32 bytes).0) (until 32 bytes).0 (until 32 bytes).1

-- whether it is to make a lock, and so counts one
abbrev pub makes_lock : List ℕ → Bool
makes_lock bytes = bytes_eq (until 32 bytes).0 (codes "init")
