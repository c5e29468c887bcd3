-- Reading a line of a script: its keyword, and the fields after it.
use Rattle.std.specs.Prelude.{ℕ, List, [], ◌∷◌, Option, Some, None, codes, take, drop}
use Rattle.std.specs.Prelude.{length, nat_le}
use Rattle.std.specs.Prelude.{if◌then◌else◌}
use Rattle.wit_model.specs.declared.locks.Class.{Class}
use Rattle.wit_model.specs.declared.locks.Class.TheVariants.{SleepMutex, SpinMutex, Rw, Sx}
use Rattle.wit_model.specs.Rules.Names.{is_name, is_file_name, longest_name}
use Rattle.wit_model.specs.Trace.Reading.{◌>>=◌, until, named, class_named, accepted, site_of}
use Rattle.wit_model.specs.Trace.Reading.{leading_word, field_at, both, whole}
use Rattle.wit_import.specs.declared.events.Sharing.{Sharing}
use Rattle.wit_import.specs.declared.events.Sharing.TheVariants.{Exclusive, Shared, Recursive}
use Rattle.wit_import.specs.declared.events.Acquisition.{Acquisition}
use Rattle.wit_import.specs.declared.events.Release.{Release}
use Rattle.wit_import.specs.declared.events.Event.{Event}
use Rattle.wit_import.specs.declared.events.Event.TheVariants.{Asks, Gets, Tries, Releases, Loses}
use Rattle.wit_import.specs.declared.reading.Keyword.{Keyword}
use Rattle.wit_import.specs.declared.reading.Keyword.TheVariants as keyword

-- ---- words

abbrev pub keyword_text : Keyword → List ℕ
keyword_text keyword.Req = codes "req"
keyword_text keyword.Acq = codes "acq"
keyword_text keyword.Try = codes "try"
keyword_text keyword.Rel = codes "rel"
keyword_text keyword.Lost = codes "Lost"

unfoldable pub keyword_named : List ℕ → Option Keyword
keyword_named =
    named keyword_text (keyword.Req ∷ keyword.Acq ∷ keyword.Try ∷ keyword.Rel ∷ keyword.Lost ∷ [])

abbrev pub sharing_text : Sharing → List ℕ
sharing_text Exclusive = codes "x"
sharing_text Shared = codes "s"
sharing_text Recursive = codes "r"

unfoldable pub sharing_named : List ℕ → Option Sharing
sharing_named = named sharing_text (Exclusive ∷ Shared ∷ Recursive ∷ [])

-- ---- a type: CLASS:NAME, or NAME alone for one of class sx

-- a spin mutex counts as a mutex, under which a lock of another kind may be asked for
abbrev pub class_written : Class → Class
class_written SpinMutex = SleepMutex
class_written SleepMutex = SleepMutex
class_written Rw = Rw
class_written Sx = Sx

-- a name, of a long one as much as a name may have
abbrev pub beginning : List ℕ → List ℕ
beginning name = if nat_le (length name) longest_name then name else take longest_name name

abbrev pub type_with : Class → List ℕ → Option (Class × List ℕ)
type_with class name =
    accepted is_name (beginning name) >>= λ written. Some (class_written class, written)

abbrev pub classed : Option Class → List ℕ → List ℕ → Option (Class × List ℕ)
classed None word behind = type_with Sx word
classed (Some class) word behind = type_with class (drop 1 behind)

unfoldable pub type_named : List ℕ → Option (Class × List ℕ)
type_named word = classed (class_named (until 58 word).0) word (until 58 word).1

-- ---- a place: FILE:LINE, or a word alone, behind which 0 stands for the line

abbrev pub site_or_word : Option (List ℕ × ℕ) → List ℕ → Option (List ℕ × ℕ)
site_or_word (Some site) word = Some site
site_or_word None word = accepted is_file_name word >>= λ file. Some (file, 0)

unfoldable pub place_named : List ℕ → Option (List ℕ × ℕ)
place_named word = site_or_word (site_of word) word

-- ---- the fields of a line

unfoldable pub acquisition_of : List ℕ → Option Acquisition
acquisition_of bytes =
    whole (both leading_word (both leading_word (both (field_at type_named)
    (both (field_at sharing_named) (field_at place_named))))) bytes
    >>= λ x. Some (record {
      thread = x.0;
      lock = x.1.0;
      class = x.1.1.0.0;
      name = x.1.1.0.1;
      sharing = x.1.1.1.0;
      file = x.1.1.1.1.0;
      line = x.1.1.1.1.1;
    })

-- what stands behind the lock is passed over; the beginning of its word is a name for it, if it may be
unfoldable pub release_of : List ℕ → Option Release
release_of bytes =
    both leading_word leading_word bytes >>= λ x. Some (record {
      thread = x.0.0;
      lock = x.0.1;
      name = accepted is_name (beginning x.0.1);
    })

-- what a line tells: nothing where it begins with no keyword
abbrev pub event_of : Option Keyword → List ℕ → Option (Option Event)
event_of None bytes = Some None
event_of (Some keyword.Req) bytes = acquisition_of bytes >>= λ a. Some (Some (Asks a))
event_of (Some keyword.Acq) bytes = acquisition_of bytes >>= λ a. Some (Some (Gets a))
event_of (Some keyword.Try) bytes = acquisition_of bytes >>= λ a. Some (Some (Tries a))
event_of (Some keyword.Rel) bytes = release_of bytes >>= λ r. Some (Some (Releases r))
event_of (Some keyword.Lost) bytes = Some (Some Loses)

-- a line: none where it begins with a keyword and has not its fields
unfoldable pub plain_line : List ℕ → Option (Option Event)
plain_line bytes = event_of (keyword_named (until 32 bytes).0) (until 32 bytes).1
