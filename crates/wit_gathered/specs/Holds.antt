-- What contexts hold: acquisitions, oldest first.
use Rattle.std.specs.Prelude.{ℕ, ◌+◌, Bool, true, false, ◌&&◌, List, [], ◌∷◌, ◌++◌, Option, Some, None}
use Rattle.std.specs.Prelude.{filter, length, nat_eq, nat_lt, not, remove, if◌then◌else◌}
use Rattle.std.specs.List.{list_any}
use Rattle.wit_traced.specs.declared.contexts.Context.{Context}
use Rattle.wit_traced.specs.declared.contexts.Context.TheVariants.{Task, Idle, Softirq, Hardirq}
use Rattle.wit_traced.specs.declared.events.Reading.{Reading}
use Rattle.wit_traced.specs.declared.events.Reading.TheVariants.{Writes, Reads, Again}
use Rattle.wit_gathered.specs.declared.holds.Hold.{Hold}
use Rattle.wit_gathered.specs.declared.holds.TheConstants.{MOST_HELD}

-- a task and an idle one are never the same context, nor are two interrupts
abbrev pub same_context : Context → Context → Bool
same_context (Task a) (Task b) = nat_eq a b
same_context (Idle a) (Idle b) = nat_eq a b
same_context (Softirq a) (Softirq b) = nat_eq a b
same_context (Hardirq a) (Hardirq b) = nat_eq a b
same_context _ _ = false

abbrev pub is_lock : ℕ → Hold → Bool
is_lock lock h = nat_eq h.lock lock

abbrev pub is_own : Context → ℕ → Hold → Bool
is_own context lock h = same_context h.context context && is_lock lock h

-- whether the context has the lock already
abbrev pub has_own : List Hold → Context → ℕ → Bool
has_own held context lock = list_any (is_own context lock) held

-- so many are kept: for a further one the oldest is let go
abbrev pub with_newest : List Hold → Hold → List Hold
with_newest held h = (if nat_lt (length held) MOST_HELD then held else remove held 0) ++ h ∷ []

-- ---- a release

-- the last place, counted from n, of what passes a test; where nothing does, what was found before
abbrev pub last_from : (Hold → Bool) → ℕ → Option ℕ → List Hold → Option ℕ
last_from test n found [] = found
last_from test n found (h ∷ held) =
    last_from test (n + 1) (if test h then Some n else found) held

abbrev pub or_else : Option ℕ → Option ℕ → Option ℕ
or_else (Some n) other = Some n
or_else None other = other

-- the newest acquisition of the lock by this context; where there is none, the newest by any other
abbrev pub place_released : List Hold → Context → ℕ → Option ℕ
place_released held context lock =
    or_else (last_from (is_own context lock) 0 None held) (last_from (is_lock lock) 0 None held)

abbrev pub without : List Hold → Option ℕ → List Hold
without held None = held
without held (Some n) = remove held n

abbrev pub released : List Hold → Context → ℕ → List Hold
released held context lock = without held (place_released held context lock)

-- ---- an acquisition by which it shows that others have released the lock, unseen

abbrev pub is_writing : Reading → Bool
is_writing Writes = true
is_writing Reads = false
is_writing Again = false

-- another context has the lock alone
abbrev pub is_others : Context → ℕ → Hold → Bool
is_others context lock h =
    is_lock lock h && (not (same_context h.context context) && is_writing h.reading)

abbrev pub seen_held : List Hold → Context → ℕ → List Hold
seen_held held context lock = filter (λ (h : Hold). not (is_others context lock h)) held
