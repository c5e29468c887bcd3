-- A run of which the answers leave a request out: two threads ask for a B under an A.
use Rattle.std.specs.Prelude.{ℕ, ◌≡◌, true, ◌==◌, List, [], ◌∷◌, ◌++◌, None, reverse, codes}
use Rattle.std.specs.Prelude.{if◌then◌else◌}
use Rattle.wit_condensed.specs.declared.condensed.Condensed.{Condensed}
use Rattle.wit_model.specs.declared.locks.Class.TheVariants.{SleepMutex}
use Rattle.wit_model.specs.declared.locks.Mode.TheVariants.{Exclusive}
use Rattle.wit_model.specs.declared.profiles.Profile.TheVariants.{AllHeld}
use Rattle.wit_model.specs.declared.calls.Call.TheVariants.{Note}
use Rattle.wit_model.specs.declared.calls.Reply.TheVariants.{Pass, Adopted, AdoptedAll, Recorded}
use Rattle.wit_model.specs.Rules.Clean.{is_clean}
use Rattle.wit_model.specs.Rules.Start.{start_fault}
use Rattle.wit_model.specs.Rules.Step.{IsLegal}
use Rattle.wit_model.specs.World.Deeds.{Deed, Take, log_of}
use Rattle.wit_model.specs.World.Examples.{small, files, by, makes_mutex, asks, locks, unlocks}
use Rattle.wit_model.specs.World.Steps.{IsWorld}
use Rattle.wit_model.specs.World.Tried.{small_all_held}
use Rattle.wit_model.specs.World.Waiting.{IsWaiting}
use Rattle.wit_recordings.specs.Duty.{AllAskRecorded}
use Rattle.wit_recordings.specs.Recordings.{NamedType}
use Rattle.wit_duty.specs.Streams.{IsRecorded}

-- type 1 is A, and each other one B
abbrev pub two_names : ℕ → NamedType
two_names n = if n == 1 then (SleepMutex, codes "A") else (SleepMutex, codes "B")

abbrev two_mutexes : List Deed
two_mutexes = makes_mutex (codes "A") 1 ++ makes_mutex (codes "B") 2

-- the first thread takes A and under it B; the second one asks for A
abbrev pub asked_meanwhile : List Deed
asked_meanwhile =
    reverse (two_mutexes ++ locks 1 1 1 Pass
    ++ locks 1 2 2 (Adopted (record { 0 = 1 }) (record { 0 = 2 })) ++ asks 2 1 3 Pass)

-- t gets lock l, for which it has asked
abbrev gets : ℕ → ℕ → List Deed
gets t l = Take t l Exclusive ∷ by t (Note (record { 0 = l })) Recorded ∷ []

-- the first thread frees both; the second one gets A, and asks for B
abbrev pub asked_twice : List Deed
asked_twice =
    reverse (unlocks 1 2 ++ unlocks 1 1 ++ gets 2 1 ++ asks 2 2 4 Pass) ++ asked_meanwhile

-- the stream has the first thread's request for B
abbrev pub asked_once : List Deed
asked_once =
    reverse (two_mutexes ++ locks 1 1 1 Pass
    ++ asks 1 2 2 (AdoptedAll ((record { 0 = 1 }, record { 0 = 2 }) ∷ [])))

-- so a recorder may write it, with these sets in the end
abbrev pub TwiceIsRecorded : Type 0
TwiceIsRecorded =
    (sets : Condensed) × IsRecorded two_names (log_of asked_twice) sets (log_of asked_once)

-- in the run the second thread waits for the first
abbrev pub TwiceWaits : Type 0
TwiceWaits = IsWaiting asked_meanwhile 2 1

-- and the other premises are met
abbrev pub TwiceMeetsPremises : Type 0
TwiceMeetsPremises =
    IsWorld small files asked_twice
    × (AllAskRecorded asked_twice
    × ((start_fault small_all_held ≡ None)
    × ((small_all_held.blessed ≡ [])
    × (IsLegal small_all_held files (log_of asked_once)
    × (is_clean AllHeld (log_of asked_once) ≡ true)))))
