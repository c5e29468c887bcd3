-- How the lines of the examples are read: the columns of each, and then its event.
use Rattle.std.proofs.Common.{◌≡◌, ℕ, List, ◌++◌, Option, None, Some, refl, ap, ◌∙◌, codes}
use Rattle.std.specs.Option.{option_and_then, option_or}
use Rattle.memchr.specs.Find.{first_of, last_of, matches_from, places_from}
use Rattle.wit_traced.specs.declared.contexts.Context.TheVariants.{Task}
use Rattle.wit_traced.specs.declared.contexts.Masked.{Masked}
use Rattle.wit_traced.specs.declared.contexts.Masked.TheVariants.{All, Nothing}
use Rattle.wit_traced.specs.declared.contexts.Preemption.TheVariants.{On, Untold}
use Rattle.wit_traced.specs.declared.events.MutexDeed.TheVariants.{Asks, Gets}
use Rattle.wit_traced.specs.Doings.{Doing, Does}
use Rattle.wit_traced.specs.Examples.{LinesAreRead, acquires, asked_at, by_task, releases}
use Rattle.wit_traced.specs.Examples.{eight_gets_a, eight_gets_b, mutex_asked_for, mutex_got, probe}
use Rattle.wit_traced.specs.Examples.{seven_frees_a, seven_frees_b, seven_gets_a, seven_gets_b}
use Rattle.wit_traced.specs.Heads.{Columns, columns_behind, head_from, head_of, head_parted, task_number}
use Rattle.wit_traced.specs.Lines.{action_of, told_of, told_behind, told_by}
use Rattle.wit_traced.specs.Lttng.{mutex_told, named_of}
use Rattle.wit_traced.specs.Numbers.{decimal}
use Rattle.wit_traced.specs.Pieces.{before, before_last, onward, rest, trimmed_end, trimmed_start}
use Rattle.wit_traced.specs.Tellings.{Tells}

-- ---- in steps, since a line is read in few steps only where what stands before is known

abbrev with_event : ℕ → Masked → List ℕ → Columns
with_event task masked event =
    record { context = Task task; masked = masked; preemption = On; event = event }

-- the number of the task stands before the bracket, that of the processor behind it
parted : (task text behind : List ℕ) (number processor : ℕ)
    → task_number (trimmed_end task) ≡ Some number → decimal (before 93 text) ≡ Some processor
    → trimmed_start (rest (onward 93 text)) ≡ behind
    → head_parted task text ≡ columns_behind number processor behind
parted task text behind number processor is_task is_processor is_behind =
    ap (option_and_then (λ (p : ℕ). option_and_then
    (λ (n : ℕ). columns_behind n p (trimmed_start (rest (onward 93 text))))
    (task_number (trimmed_end task)))) is_processor
    ∙ ap (option_and_then (λ (n : ℕ). columns_behind n processor
    (trimmed_start (rest (onward 93 text))))) is_task
    ∙ ap (columns_behind number processor) is_behind

-- the bracket behind the name of the task is the first one
seven-found : (text : List ℕ) (c : Columns) → head_parted (codes "sh-7 ") text ≡ Some c
    → head_of (codes "sh-7 [" ++ text) ≡ Some c
seven-found text c is =
    ap (λ (o : Option Columns). option_or o (head_from (codes "sh-7 [") text)) is

eight-found : (text : List ℕ) (c : Columns) → head_parted (codes "sh-8 ") text ≡ Some c
    → head_of (codes "sh-8 [" ++ text) ≡ Some c
eight-found text c is =
    ap (λ (o : Option Columns). option_or o (head_from (codes "sh-8 [") text)) is

read : (line : List ℕ) (c : Columns) (doing : Doing) → head_of line ≡ Some c
    → action_of c.event ≡ Some doing
    → told_of line ≡ Some (Tells c.context c.masked c.preemption doing)
unfolding told_of
read line c doing columns action = ap (told_behind line) columns ∙ ap (told_by c) action

-- ---- the lines

parts-seven_a : head_parted (codes "sh-7 ") (codes "000] d.... 1.5: lock_acquire: 0x10 A")
    ≡ Some (with_event 7 All (codes "lock_acquire: 0x10 A"))
unfolding first_of last_of matches_from places_from
parts-seven_a =
    parted (codes "sh-7 ") (codes "000] d.... 1.5: lock_acquire: 0x10 A") (codes "d.... 1.5: lock_acquire: 0x10 A") 7 0 refl refl refl

columns-seven_a : head_of seven_gets_a ≡ Some (with_event 7 All (codes "lock_acquire: 0x10 A"))
columns-seven_a =
    seven-found (codes "000] d.... 1.5: lock_acquire: 0x10 A") (with_event 7 All (codes "lock_acquire: 0x10 A")) parts-seven_a

action-seven_a : action_of (codes "lock_acquire: 0x10 A") ≡ Some (acquires 16 (codes "A"))
unfolding first_of last_of matches_from places_from
action-seven_a = refl

seven_a : told_of seven_gets_a ≡ Some (by_task 7 (acquires 16 (codes "A")))
seven_a = read seven_gets_a (with_event 7 All (codes "lock_acquire: 0x10 A")) (acquires 16 (codes "A")) columns-seven_a action-seven_a

parts-seven_b : head_parted (codes "sh-7 ") (codes "000] d.... 1.6: lock_acquire: 0x20 B")
    ≡ Some (with_event 7 All (codes "lock_acquire: 0x20 B"))
unfolding first_of last_of matches_from places_from
parts-seven_b =
    parted (codes "sh-7 ") (codes "000] d.... 1.6: lock_acquire: 0x20 B") (codes "d.... 1.6: lock_acquire: 0x20 B") 7 0 refl refl refl

columns-seven_b : head_of seven_gets_b ≡ Some (with_event 7 All (codes "lock_acquire: 0x20 B"))
columns-seven_b =
    seven-found (codes "000] d.... 1.6: lock_acquire: 0x20 B") (with_event 7 All (codes "lock_acquire: 0x20 B")) parts-seven_b

action-seven_b : action_of (codes "lock_acquire: 0x20 B") ≡ Some (acquires 32 (codes "B"))
unfolding first_of last_of matches_from places_from
action-seven_b = refl

seven_b : told_of seven_gets_b ≡ Some (by_task 7 (acquires 32 (codes "B")))
seven_b = read seven_gets_b (with_event 7 All (codes "lock_acquire: 0x20 B")) (acquires 32 (codes "B")) columns-seven_b action-seven_b

parts-seven_without_b : head_parted (codes "sh-7 ") (codes "000] d.... 1.7: lock_release: 0x20 B")
    ≡ Some (with_event 7 All (codes "lock_release: 0x20 B"))
unfolding first_of last_of matches_from places_from
parts-seven_without_b =
    parted (codes "sh-7 ") (codes "000] d.... 1.7: lock_release: 0x20 B") (codes "d.... 1.7: lock_release: 0x20 B") 7 0 refl refl refl

columns-seven_without_b : head_of seven_frees_b ≡ Some (with_event 7 All (codes "lock_release: 0x20 B"))
columns-seven_without_b =
    seven-found (codes "000] d.... 1.7: lock_release: 0x20 B") (with_event 7 All (codes "lock_release: 0x20 B")) parts-seven_without_b

action-seven_without_b : action_of (codes "lock_release: 0x20 B") ≡ Some (releases 32)
unfolding first_of last_of matches_from places_from
action-seven_without_b = refl

seven_without_b : told_of seven_frees_b ≡ Some (by_task 7 (releases 32))
seven_without_b = read seven_frees_b (with_event 7 All (codes "lock_release: 0x20 B")) (releases 32) columns-seven_without_b action-seven_without_b

parts-seven_without_a : head_parted (codes "sh-7 ") (codes "000] d.... 1.8: lock_release: 0x10 A")
    ≡ Some (with_event 7 All (codes "lock_release: 0x10 A"))
unfolding first_of last_of matches_from places_from
parts-seven_without_a =
    parted (codes "sh-7 ") (codes "000] d.... 1.8: lock_release: 0x10 A") (codes "d.... 1.8: lock_release: 0x10 A") 7 0 refl refl refl

columns-seven_without_a : head_of seven_frees_a ≡ Some (with_event 7 All (codes "lock_release: 0x10 A"))
columns-seven_without_a =
    seven-found (codes "000] d.... 1.8: lock_release: 0x10 A") (with_event 7 All (codes "lock_release: 0x10 A")) parts-seven_without_a

action-seven_without_a : action_of (codes "lock_release: 0x10 A") ≡ Some (releases 16)
unfolding first_of last_of matches_from places_from
action-seven_without_a = refl

seven_without_a : told_of seven_frees_a ≡ Some (by_task 7 (releases 16))
seven_without_a = read seven_frees_a (with_event 7 All (codes "lock_release: 0x10 A")) (releases 16) columns-seven_without_a action-seven_without_a

parts-eight_a : head_parted (codes "sh-8 ") (codes "001] d.... 1.9: lock_acquire: 0x10 A")
    ≡ Some (with_event 8 All (codes "lock_acquire: 0x10 A"))
unfolding first_of last_of matches_from places_from
parts-eight_a =
    parted (codes "sh-8 ") (codes "001] d.... 1.9: lock_acquire: 0x10 A") (codes "d.... 1.9: lock_acquire: 0x10 A") 8 1 refl refl refl

columns-eight_a : head_of eight_gets_a ≡ Some (with_event 8 All (codes "lock_acquire: 0x10 A"))
columns-eight_a =
    eight-found (codes "001] d.... 1.9: lock_acquire: 0x10 A") (with_event 8 All (codes "lock_acquire: 0x10 A")) parts-eight_a

action-eight_a : action_of (codes "lock_acquire: 0x10 A") ≡ Some (acquires 16 (codes "A"))
unfolding first_of last_of matches_from places_from
action-eight_a = refl

eight_a : told_of eight_gets_a ≡ Some (by_task 8 (acquires 16 (codes "A")))
eight_a = read eight_gets_a (with_event 8 All (codes "lock_acquire: 0x10 A")) (acquires 16 (codes "A")) columns-eight_a action-eight_a

parts-eight_b : head_parted (codes "sh-8 ") (codes "001] d.... 2.0: lock_acquire: 0x20 B")
    ≡ Some (with_event 8 All (codes "lock_acquire: 0x20 B"))
unfolding first_of last_of matches_from places_from
parts-eight_b =
    parted (codes "sh-8 ") (codes "001] d.... 2.0: lock_acquire: 0x20 B") (codes "d.... 2.0: lock_acquire: 0x20 B") 8 1 refl refl refl

columns-eight_b : head_of eight_gets_b ≡ Some (with_event 8 All (codes "lock_acquire: 0x20 B"))
columns-eight_b =
    eight-found (codes "001] d.... 2.0: lock_acquire: 0x20 B") (with_event 8 All (codes "lock_acquire: 0x20 B")) parts-eight_b

action-eight_b : action_of (codes "lock_acquire: 0x20 B") ≡ Some (acquires 32 (codes "B"))
unfolding first_of last_of matches_from places_from
action-eight_b = refl

eight_b : told_of eight_gets_b ≡ Some (by_task 8 (acquires 32 (codes "B")))
eight_b = read eight_gets_b (with_event 8 All (codes "lock_acquire: 0x20 B")) (acquires 32 (codes "B")) columns-eight_b action-eight_b

parts-probed : head_parted (codes "sh-7 ") (codes "000] ..... 1.5: k_mutex_lock: (mutex_lock+0x0/0x30) a=0x10 ip=first+0x10/0x20")
    ≡ Some (with_event 7 Nothing (codes "k_mutex_lock: (mutex_lock+0x0/0x30) a=0x10 ip=first+0x10/0x20"))
unfolding first_of last_of matches_from places_from
parts-probed =
    parted (codes "sh-7 ") (codes "000] ..... 1.5: k_mutex_lock: (mutex_lock+0x0/0x30) a=0x10 ip=first+0x10/0x20") (codes "..... 1.5: k_mutex_lock: (mutex_lock+0x0/0x30) a=0x10 ip=first+0x10/0x20") 7 0 refl refl refl

columns-probed : head_of probe ≡ Some (with_event 7 Nothing (codes "k_mutex_lock: (mutex_lock+0x0/0x30) a=0x10 ip=first+0x10/0x20"))
columns-probed =
    seven-found (codes "000] ..... 1.5: k_mutex_lock: (mutex_lock+0x0/0x30) a=0x10 ip=first+0x10/0x20") (with_event 7 Nothing (codes "k_mutex_lock: (mutex_lock+0x0/0x30) a=0x10 ip=first+0x10/0x20")) parts-probed

action-probed : action_of (codes "k_mutex_lock: (mutex_lock+0x0/0x30) a=0x10 ip=first+0x10/0x20") ≡ Some (asked_at)
unfolding first_of last_of matches_from places_from
action-probed = refl

probed : told_of probe ≡ Some (Tells (Task 7) Nothing On asked_at)
probed = read probe (with_event 7 Nothing (codes "k_mutex_lock: (mutex_lock+0x0/0x30) a=0x10 ip=first+0x10/0x20")) (asked_at) columns-probed action-probed

got : mutex_told mutex_got ≡ Some (Tells (Task 7) All Untold (Does Gets 16 (codes "?")))
unfolding named_of first_of last_of matches_from places_from
got = refl

asked_for : mutex_told mutex_asked_for ≡ Some (Tells (Task 7) All Untold (Does Asks 32 (codes "?")))
unfolding named_of first_of last_of matches_from places_from
asked_for = refl

-- ---- pieces of the texts of their types and places

pub onward-a : onward 32 (codes " 0 A") ≡ codes " 0 A"
unfolding first_of matches_from places_from
onward-a = refl

pub onward-b : onward 32 (codes " 0 B") ≡ codes " 0 B"
unfolding first_of matches_from places_from
onward-b = refl

pub behind-zero-a : onward 32 (codes "0 A") ≡ codes " A"
unfolding first_of matches_from places_from
behind-zero-a = refl

pub behind-zero-b : onward 32 (codes "0 B") ≡ codes " B"
unfolding first_of matches_from places_from
behind-zero-b = refl

pub zero-a : before 32 (codes "0 A") ≡ codes "0"
unfolding first_of matches_from places_from
zero-a = refl

pub zero-b : before 32 (codes "0 B") ≡ codes "0"
unfolding first_of matches_from places_from
zero-b = refl

pub no-colon : before_last 58 (codes "lock_acquire") ≡ None
unfolding last_of matches_from places_from
no-colon = refl

pub lines-read : LinesAreRead
lines-read = record {
  seven_a = seven_a;
  seven_b = seven_b;
  seven_without_b = seven_without_b;
  seven_without_a = seven_without_a;
  eight_a = eight_a;
  eight_b = eight_b;
  probed = probed;
  got = got;
  asked_for = asked_for;
}
