-- What babeltrace2 prints of the pthread wrapper of LTTng:
-- `.. lttng_ust_pthread:pthread_mutex_CALL: .. vtid = N .. { mutex = LOCK, status = N }`.
use Rattle.std.specs.Prelude.{ℕ, List, Option, Some, None, codes, length, nat_eq, if◌then◌else◌}
use Rattle.std.specs.Option.{option_and_then, option_map, option_or}
use Rattle.std.specs.Str.{bytes_eq}
use Rattle.wit_traced.specs.declared.contexts.Context.TheVariants.{Task}
use Rattle.wit_traced.specs.declared.contexts.Masked.TheVariants.{All}
use Rattle.wit_traced.specs.declared.contexts.Preemption.TheVariants.{Untold}
use Rattle.wit_traced.specs.declared.events.MutexDeed.{MutexDeed}
use Rattle.wit_traced.specs.declared.events.MutexDeed.TheVariants.{Asks, Gets, Tries, Releases}
use Rattle.wit_traced.specs.Doings.{Does}
use Rattle.wit_traced.specs.Numbers.{decimal, hexadecimal}
use Rattle.wit_traced.specs.Pieces.{before, behind, onward}
use Rattle.wit_traced.specs.Tellings.{Telling, Tells}

-- the word behind a name, without the comma
abbrev pub word_behind : List ℕ → List ℕ → Option (List ℕ)
word_behind name fields = option_map (λ text. before 44 (before 32 text)) (behind name fields)

abbrev pub unless_empty : List ℕ → Option (List ℕ)
unless_empty word = if nat_eq (length word) 0 then None else Some word

abbrev pub quoted_behind : List ℕ → List ℕ → Option (List ℕ)
quoted_behind name fields =
    option_and_then (λ text. unless_empty (before 34 text)) (behind name fields)

-- its source line, its function, its file or its address
abbrev pub place_of : List ℕ → Option (List ℕ)
place_of fields =
    option_or
    (option_or
    (option_or
    (option_or (quoted_behind (codes "src = \"") fields) (quoted_behind (codes "func = \"") fields))
    (quoted_behind (codes "bin = \"") fields)) (word_behind (codes "ip = ") fields))
    (Some (codes "?"))

abbrev pub deed_done : List ℕ → Option MutexDeed
deed_done call =
    if bytes_eq call (codes "lock_acq") then Some Gets
    else if bytes_eq call (codes "trylock") then Some Tries
    else if bytes_eq call (codes "unlock") then Some Releases
    else None

-- a call that failed does nothing
abbrev pub deed_by_status : List ℕ → List ℕ → Option MutexDeed
deed_by_status call status = if bytes_eq status (codes "0") then deed_done call else None

abbrev pub deed_of : List ℕ → List ℕ → Option MutexDeed
deed_of call fields =
    if bytes_eq call (codes "lock_req") then Some Asks
    else option_and_then (deed_by_status call) (word_behind (codes "status = ") fields)

abbrev pub mutex_telling : MutexDeed → ℕ → ℕ → List ℕ → Telling
mutex_telling deed thread lock place = Tells (Task thread) All Untold (Does deed lock place)

abbrev pub mutex_fields : List ℕ → MutexDeed → Option Telling
mutex_fields fields deed =
    option_and_then
    (λ thread. option_and_then
    (λ lock. option_map (mutex_telling deed thread lock) (place_of fields))
    (option_and_then hexadecimal (word_behind (codes "mutex = ") fields)))
    (option_and_then decimal (word_behind (codes "vtid = ") fields))

abbrev pub mutex_named : List ℕ → Option Telling
mutex_named named =
    option_and_then (mutex_fields (onward 58 named)) (deed_of (before 58 named) (onward 58 named))

unfoldable pub named_of : List ℕ → Option (List ℕ)
named_of line = behind (codes "lttng_ust_pthread:pthread_mutex_") line

abbrev pub mutex_told : List ℕ → Option Telling
mutex_told line = option_and_then mutex_named (named_of line)
