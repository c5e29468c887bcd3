-- Whether a verifier's log is clean, and what keeps it from being so.
use Rattle.std.specs.Prelude.{ℕ, Bool, true, false, not, ◌&&◌, nat_lt, List, [], ◌∷◌, ◌++◌, Option}
use Rattle.std.specs.Prelude.{None, Some, length, reverse, unwrap_or, codes, if◌then◌else◌}
use Rattle.std.specs.Fmt.{decimal}
use Rattle.wit_model.specs.declared.profiles.Profile.{Profile}
use Rattle.wit_model.specs.declared.profiles.Profile.TheVariants.{Plain}
use Rattle.wit_model.specs.declared.calls.NewLock.{NewLock}
use Rattle.wit_model.specs.declared.calls.Request.{Request}
use Rattle.wit_model.specs.declared.calls.Call.{Call}
use Rattle.wit_model.specs.declared.calls.Call.TheVariants.{Init, Check, NoteTry, SetWatch}
use Rattle.wit_model.specs.declared.calls.Entry.{Entry}
use Rattle.wit_model.specs.Rules.Types.{type_name_of, is_giant_type}
use Rattle.wit_model.specs.Rules.Locks.{has_flag}
use Rattle.wit_model.specs.Rules.History.{is_on}
use Rattle.wit_model.specs.Rules.State.{Story}
use Rattle.wit_model.specs.Rules.Clean.{is_clean}
use Rattle.wit_state.specs.declared.hindrances.Hindrance.{Hindrance}
use Rattle.wit_state.specs.declared.hindrances.Hindrance.TheVariants.{Blessed, Doubled, Giant}
use Rattle.wit_state.specs.declared.hindrances.Hindrance.TheVariants.{Untaught, Tried, Unwatched}
use Rattle.wit_state.specs.declared.hindrances.Hindrance.TheVariants.{Reported}

-- whether a pair of type names may be taken in either order
abbrev pub blesses : Story → Bool
blesses s = nat_lt 0 (length s.start.blessed)

-- the premise of the laws of worlds: the history is clean, and no pair is blessed
abbrev pub is_clean_story : Story → Bool
is_clean_story s = not (blesses s) && is_clean s.start.profile s.history

-- ---- what keeps it

abbrev pub init_hindrance : NewLock → Option Hindrance
init_hindrance lock =
    if has_flag lock.flags.0 0x02 then Some Doubled
    else if is_giant_type lock.class (type_name_of lock) then Some Giant
    else None

abbrev pub check_hindrance : Request → Option Hindrance
check_hindrance q =
    if not (has_flag q.ops.0 0x01) then Some Untaught
    else if has_flag q.ops.0 0x02 then Some Doubled
    else None

-- what of a call keeps the history from being clean
abbrev pub hindrance_of : Profile → Call → Option Hindrance
hindrance_of profile (Init lock) = init_hindrance lock
hindrance_of profile (Check q) = check_hindrance q
hindrance_of Plain (NoteTry l m s) = Some Tried
hindrance_of profile (SetWatch level) = if is_on level then None else Some Unwatched
hindrance_of profile _ = None

abbrev pub first_of : Option Hindrance → Option Hindrance → Option Hindrance
first_of None later = later
first_of (Some hindrance) later = Some hindrance

-- of these entries, oldest first, the first that has one
abbrev pub first_hindrance : Profile → List Entry → Option Hindrance
first_hindrance profile [] = None
first_hindrance profile (e ∷ log) =
    first_of (hindrance_of profile e.call) (first_hindrance profile log)

-- what is told to keep it
abbrev pub main_hindrance : Story → Hindrance
main_hindrance s =
    if blesses s then Blessed
    else unwrap_or (first_hindrance s.start.profile (reverse s.history)) Reported

-- ---- in words

abbrev pub at_line : ℕ → List ℕ → List ℕ
at_line n words = codes "line " ++ decimal n ++ codes ": " ++ words

-- what keeps it, and the line of the trace that does; a report is told without one
abbrev pub hindrance_words : Hindrance → ℕ → List ℕ
hindrance_words Blessed n = at_line n (codes "either order of two types is allowed")
hindrance_words Doubled n = at_line n (codes "a second lock of the type is allowed")
hindrance_words Giant n = at_line n (codes "the lock is Giant")
hindrance_words Untaught n = at_line n (codes "the request teaches no order")
hindrance_words Tried n = at_line n (codes "a lock was tried")
hindrance_words Unwatched n = at_line n (codes "less than everything is watched")
hindrance_words Reported n = codes "reported"

-- whether it is clean, and what keeps it from that, by a line of the trace
abbrev pub clean_words : Story → ℕ → List ℕ
clean_words s n =
    if is_clean_story s then codes "clean" else hindrance_words (main_hindrance s) n

abbrev pub clean_text : Story → ℕ → List ℕ
clean_text s n = clean_words s n ++ 10 ∷ []
