-- What threads hold: acquisitions, oldest first, and which of them were tries.
use Rattle.std.specs.Prelude.{ℕ, ◌+◌, Bool, true, false, ◌&&◌, List, [], ◌∷◌, ◌++◌, Option, Some, None}
use Rattle.std.specs.Prelude.{length, nat_lt, remove, if◌then◌else◌}
use Rattle.std.specs.List.{list_any}
use Rattle.std.specs.Str.{bytes_eq}
use Rattle.wit_import.specs.declared.events.Acquisition.{Acquisition}
use Rattle.wit_import.specs.declared.events.Release.{Release}
use Rattle.wit_import.specs.declared.events.Sharing.{Sharing}
use Rattle.wit_import.specs.declared.events.Sharing.TheVariants.{Exclusive, Shared, Recursive}
use Rattle.wit_import.specs.declared.held.Holding.{Holding}
use Rattle.wit_import.specs.declared.held.TheConstants.{MOST_HELD, MOST_FREED}
use Rattle.wit_import.specs.Names.{with_name}

-- whether it is this thread's
abbrev pub is_of : List ℕ → Holding → Bool
is_of thread h = bytes_eq h.acquisition.thread thread

-- whether it is of this lock
abbrev pub is_lock : List ℕ → Holding → Bool
is_lock lock h = bytes_eq h.acquisition.lock lock

abbrev pub is_own : List ℕ → List ℕ → Holding → Bool
is_own thread lock h = is_of thread h && is_lock lock h

-- whether a reader asks for what it reads already, as it may
abbrev pub is_recursive : Sharing → Bool
is_recursive Recursive = true
is_recursive Exclusive = false
is_recursive Shared = false

abbrev pub asks_again : List Holding → Acquisition → Bool
asks_again held a = is_recursive a.sharing && list_any (is_own a.thread a.lock) held

-- ---- an acquisition

-- so many are kept: for a further one the oldest is let go
abbrev pub with_newest : List Holding → Holding → List Holding
with_newest held h =
    (if nat_lt (length held) MOST_HELD then held else remove held 0) ++ h ∷ []

-- ---- a release

-- the last place, counted from n, of what passes a test; where nothing does, what was found before
abbrev pub last_from : (Holding → Bool) → ℕ → Option ℕ → List Holding → Option ℕ
last_from test n found [] = found
last_from test n found (h ∷ held) =
    last_from test (n + 1) (if test h then Some n else found) held

-- the newest acquisition of the lock by this thread; where there is none, the newest by any other
abbrev pub or_else : Option ℕ → Option ℕ → Option ℕ
or_else (Some n) other = Some n
or_else None other = other

abbrev pub place_released : List Holding → Release → Option ℕ
place_released held r =
    or_else (last_from (is_own r.thread r.lock) 0 None held) (last_from (is_lock r.lock) 0 None held)

-- ---- what was released: so many locks are kept, and for a further one all are forgotten

abbrev pub with_freed : List (List ℕ) → List ℕ → List (List ℕ)
with_freed freed lock = with_name (if nat_lt (length freed) MOST_FREED then freed else []) lock
