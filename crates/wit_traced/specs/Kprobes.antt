-- Events of kprobes on the functions of locks: `k_NAME: (..) a=LOCK ip=PLACE` where NAME is entered, and
-- `r_NAME: (PLACE <- ..) r=NUMBER` where it returns.
use Rattle.std.specs.Prelude.{ℕ, Bool, ◌||◌, not, List, [], ◌∷◌, Option, Some, None, codes}
use Rattle.std.specs.Prelude.{if◌then◌else◌}
use Rattle.std.specs.List.{list_all}
use Rattle.std.specs.Option.{option_and_then, option_map}
use Rattle.std.specs.Prelude.{nat_eq}
use Rattle.wit_traced.specs.declared.contexts.Masked.{Masked}
use Rattle.wit_traced.specs.declared.contexts.Masked.TheVariants.{Nothing, Softirqs, All}
use Rattle.wit_traced.specs.declared.events.Call.{Call}
use Rattle.wit_traced.specs.declared.events.Deed.{Deed}
use Rattle.wit_traced.specs.declared.events.Deed.TheVariants as deed
use Rattle.wit_traced.specs.declared.events.Kind.{Kind}
use Rattle.wit_traced.specs.declared.events.Kind.TheVariants.{Spins, SpinsForReaders, Sleeps, Map}
use Rattle.wit_traced.specs.declared.events.Reading.{Reading}
use Rattle.wit_traced.specs.declared.events.Reading.TheVariants.{Writes, Reads, Again}
use Rattle.wit_traced.specs.Doings.{Doing, Enters, Returns}
use Rattle.wit_traced.specs.Numbers.{hexadecimal}
use Rattle.wit_traced.specs.Pieces.{before, begins, behind, behind_first, has, onward, place, rest}
use Rattle.wit_traced.specs.Pieces.{trimmed_start, without}

-- ---- what a function does, by its name

abbrev pub is_sleeping : List ℕ → Bool
is_sleeping name =
    begins (codes "mutex_") name || (begins (codes "rt_mutex_") name
    || (begins (codes "rt_spin_") name || (begins (codes "down_read") name
    || (begins (codes "down_write") name || (begins (codes "up_read") name
    || (begins (codes "up_write") name || begins (codes "percpu_") name))))))

abbrev pub kind_named : List ℕ → Option Kind
kind_named name =
    if begins (codes "raw_spin") name then Some Spins
    else if begins (codes "raw_read") name || begins (codes "raw_write") name
    then Some SpinsForReaders
    else if is_sleeping name then Some Sleeps
    else None

-- a semaphore that is downgraded is held on
abbrev pub deed_named : List ℕ → Option Deed
deed_named name =
    if has (codes "unlock") name || (begins (codes "up_") name || has (codes "_up_") name)
    then Some deed.Releases
    else if has (codes "downgrade") name then None
    else if has (codes "try") name then Some deed.Tries
    else if has (codes "interruptible") name || has (codes "killable") name then Some deed.MayEnd
    else Some deed.Acquires

abbrev pub reading_of : Kind → Reading
reading_of SpinsForReaders = Again
reading_of Spins = Reads
reading_of Sleeps = Reads
reading_of Map = Reads

abbrev pub reading_named : Kind → List ℕ → Reading
reading_named kind name = if has (codes "read") name then reading_of kind else Writes

-- the probe is hit before the function masks them
abbrev pub masks_before : List ℕ → Masked
masks_before name =
    if has (codes "_irq") name then All
    else if has (codes "_bh") name then Softirqs
    else Nothing

abbrev pub masks_named : Deed → List ℕ → Masked
masks_named deed.Releases name = Nothing
masks_named deed.Acquires name = masks_before name
masks_named deed.MayEnd name = masks_before name
masks_named deed.Tries name = masks_before name

abbrev pub call_with : List ℕ → Kind → Deed → Call
call_with name kind of = record {
  deed = of;
  kind = kind;
  reading = reading_named kind name;
  masks = masks_named of name;
}

abbrev pub call_named : List ℕ → Option Call
call_named name =
    option_and_then (λ kind. option_map (call_with name kind) (deed_named name)) (kind_named name)

-- a name without the underscores before it, of which there are two at most
abbrev pub without_lines : List ℕ → List ℕ
without_lines name = without (95 ∷ []) (without (95 ∷ []) name)

-- ---- events

abbrev pub entering : Call → List ℕ → List ℕ → Option Doing
entering call lock from =
    option_map (λ number. Enters call number (place (before 32 from))) (hexadecimal lock)

abbrev pub entered_with : Call → List ℕ → Option Doing
entered_with call fields =
    option_and_then (λ from. entering call (before 32 fields) from)
    (behind_first (codes " ip=") (onward 32 fields))

abbrev pub entered : List ℕ → Option Doing
entered text =
    option_and_then
    (λ call. option_and_then (entered_with call) (behind (codes ") a=") (onward 58 text)))
    (call_named (without_lines (before 58 text)))

abbrev pub is_zero : List ℕ → Bool
is_zero number = list_all (nat_eq 48) (without (codes "0x") number)

abbrev pub returned_with : Call → List ℕ → Option Doing
returned_with call inner =
    option_map
    (λ given. Returns call (not (is_zero (before 32 given))) (place (before 32 (before 41 inner))))
    (behind (codes ") r=") inner)

abbrev pub returned : List ℕ → Option Doing
returned text =
    option_and_then
    (λ call. option_and_then (returned_with call)
    (behind_first (codes "(") (trimmed_start (rest (onward 58 text)))))
    (call_named (without_lines (before 58 text)))

abbrev pub probed : List ℕ → Option Doing
probed event =
    if begins (codes "k_") event then entered (rest (rest event))
    else if begins (codes "r_") event then returned (rest (rest event))
    else None
