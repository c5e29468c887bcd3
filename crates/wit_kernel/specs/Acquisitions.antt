-- What was gathered, as events of an import. All of it is one thread's, and each lock is one by itself.
use Rattle.std.specs.Prelude.{ℕ, ◌^◌, ◌&&◌, List, [], ◌∷◌, ◌++◌, Option, Some, None, codes, length, map}
use Rattle.std.specs.Prelude.{nat_eq, nat_le, nat_lt, slice_get, take, if◌then◌else◌}
use Rattle.std.specs.Option.{option_map}
use Rattle.wit_model.specs.declared.locks.Class.{Class}
use Rattle.wit_model.specs.declared.locks.Class.TheVariants.{SleepMutex, Rw, Sx}
use Rattle.wit_model.specs.Rules.Names.{is_file_name, is_name}
use Rattle.wit_model.specs.Trace.Reading.{accepted}
use Rattle.wit_traced.specs.Numbers.{decimal}
use Rattle.wit_traced.specs.Pieces.{before_last, behind_last}
use Rattle.wit_gathered.specs.declared.naming.LockClass.{LockClass}
use Rattle.wit_gathered.specs.declared.naming.LockClass.TheVariants.{Mutex, Readers, Sleeping}
use Rattle.wit_gathered.specs.declared.requests.Kept.{Kept}
use Rattle.wit_gathered.specs.declared.requests.Kept.TheVariants as kept
use Rattle.wit_gathered.specs.declared.requests.Step.{Step}
use Rattle.wit_gathered.specs.Asking.{Asking}
use Rattle.wit_gathered.specs.Gathering.{Gathered}
use Rattle.wit_gathered.specs.Naming.{Names, is_held, names_of, type_named}
use Rattle.wit_import.specs.declared.events.Acquisition.{Acquisition}
use Rattle.wit_import.specs.declared.events.Event.{Event}
use Rattle.wit_import.specs.declared.events.Event.TheVariants.{Asks, Tries, Twice, Loses}
use Rattle.wit_import.specs.declared.events.LockType.{LockType}
use Rattle.wit_import.specs.declared.events.Sharing.TheVariants.{Exclusive}
use Rattle.wit_kernel.specs.declared.acquisitions.TheConstants.{LONGEST_NAME, LONGEST_PLACE}

-- ---- a place, of such bytes as a trace may have

abbrev pub clean : ℕ → ℕ
clean b = if nat_eq b 34 then 95 else if nat_le 33 b && nat_le b 126 then b else 95

abbrev pub unless_empty : List ℕ → List ℕ
unless_empty place = if nat_eq (length place) 0 then 63 ∷ [] else place

-- where there is none, an interrupt begins
abbrev pub place_shown : Option (List ℕ) → List ℕ
place_shown None = codes "irq"
place_shown (Some place) = unless_empty (take LONGEST_PLACE (map clean place))

abbrev pub place_text : List (List ℕ) → ℕ → List ℕ
place_text places number = place_shown (slice_get places number)

-- ---- a file and a line, where a number stands behind the last colon; else the line is 0

abbrev pub bounded : Option ℕ → Option ℕ
bounded None = None
bounded (Some n) = if nat_lt n (2 ^ 32) then Some n else None

abbrev pub site_with : List ℕ → List ℕ → Option ℕ → List ℕ × ℕ
site_with place file None = (place, 0)
site_with place file (Some line) = if nat_eq (length file) 0 then (place, 0) else (file, line)

abbrev pub site_parted : List ℕ → Option (List ℕ) → Option (List ℕ) → List ℕ × ℕ
site_parted place None text = (place, 0)
site_parted place (Some file) None = (place, 0)
site_parted place (Some file) (Some text) = site_with place file (bounded (decimal text))

abbrev pub site_of : List ℕ → List ℕ × ℕ
site_of place = site_parted place (before_last 58 place) (behind_last 58 place)

-- ---- an acquisition

abbrev pub class_of : LockClass → Class
class_of Mutex = SleepMutex
class_of Readers = Rw
class_of Sleeping = Sx

abbrev pub acquisition_with : Class → Option (List ℕ) → Option (List ℕ) → ℕ → Option Acquisition
acquisition_with class None file line = None
acquisition_with class (Some name) None line = None
acquisition_with class (Some name) (Some file) line = Some (record {
  thread = codes "1";
  lock = codes "1";
  class = class;
  name = name;
  sharing = Exclusive;
  file = file;
  line = line;
})

abbrev pub acquisition_at : LockClass × List ℕ → List ℕ × ℕ → Option Acquisition
acquisition_at named site =
    acquisition_with (class_of named.0) (accepted is_name named.1) (accepted is_file_name site.0)
    site.1

abbrev pub acquisition : Names → List (List ℕ) → Step → Option Acquisition
acquisition n places s =
    acquisition_at (type_named n s.of) (site_of (place_text places s.place))

-- ---- the type of a lock that is released and that nobody holds: its name says where

abbrev pub lock_type : Class → List ℕ → LockType
lock_type class name = record { class = class; name = name }

unfoldable pub released_text : List ℕ → List ℕ → List ℕ
released_text name place = take LONGEST_NAME ((name ++ codes ", released at ") ++ place)

abbrev pub released_type : LockClass × List ℕ → List ℕ → Option LockType
released_type named place =
    option_map (lock_type (class_of named.0))
    (accepted is_name (released_text named.1 place))

abbrev pub released : Names → List (List ℕ) → Step → Option LockType
released n places s = released_type (type_named n s.of) (place_text places s.place)

-- ---- the events of what is kept

abbrev pub trying : Option Acquisition → List Event
trying None = []
trying (Some a) = Tries a ∷ []

abbrev pub asking : Option Acquisition → List Event
asking None = []
asking (Some a) = Asks a ∷ []

-- what is held was asked for by requests of its own: here it is tried
abbrev pub held_events : Names → List (List ℕ) → List Step → List Event
held_events n places [] = []
held_events n places (s ∷ steps) =
    trying (acquisition n places s) ++ held_events n places steps

-- nobody waits for what nobody ever held: that is not asked for
abbrev pub request_events : Names → List (List ℕ) → Asking → List Event
request_events n places r =
    if is_held n r.asked.of
    then held_events n places r.held ++ (asking (acquisition n places r.asked) ++ Loses ∷ [])
    else []

abbrev pub twice_events : Option LockType → List Event
twice_events None = []
twice_events (Some of) = Twice of ∷ []

abbrev pub kept_events : Names → List (List ℕ) → Kept → List Event
kept_events n places (kept.Asks r) = request_events n places r
kept_events n places (kept.Twice s) = twice_events (released n places s)

abbrev pub events_in : Names → List (List ℕ) → List Kept → List Event
events_in n places [] = []
events_in n places (k ∷ later) = kept_events n places k ++ events_in n places later

abbrev pub events_of : Gathered → List Event
events_of g = events_in (names_of g) g.places g.requests.kept
