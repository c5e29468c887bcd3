-- Duty: what a recorder owes, in pairs of types. A request by a thread that holds locks is written,
-- after all that the thread holds, unless each of its pairs of types was written before.
use Rattle.std.specs.Prelude.{ℕ, ◌<◌, ◌≡◌, Bool, true, false, not, List, [], ◌∷◌, ◌++◌, None}
use Rattle.std.specs.Prelude.{reverse, codes}
use Rattle.std.specs.List.{list_all}
use Rattle.wit_model.specs.declared.profiles.Profile.TheVariants.{Plain, AllHeld}
use Rattle.wit_model.specs.declared.locks.Class.TheVariants.{SleepMutex}
use Rattle.wit_model.specs.declared.locks.Mode.TheVariants.{Exclusive}
use Rattle.wit_model.specs.declared.locks.Watch.TheVariants.{Off}
use Rattle.wit_model.specs.declared.calls.Request.{Request}
use Rattle.wit_model.specs.declared.calls.Call.TheVariants.{Check, Note, NoteTry, SetWatch}
use Rattle.wit_model.specs.declared.calls.Reply.{Reply}
use Rattle.wit_model.specs.declared.calls.Reply.TheVariants.{Done, Pass, Adopted, AdoptedAll}
use Rattle.wit_model.specs.declared.calls.Reply.TheVariants.{Recorded, Exhausted, Unrecorded}
use Rattle.wit_model.specs.declared.calls.Entry.{Entry}
use Rattle.wit_model.specs.Rules.Beginnings.{IsBeginning}
use Rattle.wit_model.specs.Rules.History.{is_held}
use Rattle.wit_model.specs.Rules.State.{Start}
use Rattle.wit_model.specs.Rules.Start.{start_fault}
use Rattle.wit_model.specs.Rules.Step.{IsLegal}
use Rattle.wit_model.specs.Rules.Clean.{is_clean}
use Rattle.wit_model.specs.World.Deeds.{Deed, Logged, Take, TryTake, log_of, shares}
use Rattle.wit_model.specs.World.Steps.{IsWorld}
use Rattle.wit_model.specs.World.Waiting.{IsDeadlock}
use Rattle.wit_model.specs.World.Reordering.{IsReordering}
use Rattle.wit_model.specs.World.Examples.{small, files, by, makes_mutex, asks, locks, unlocks}
use Rattle.wit_model.specs.World.Examples.{at_line, crossed}
use Rattle.wit_model.specs.World.Tried.{small_all_held}
use Rattle.wit_recordings.specs.Recordings.{NamedType, AsksWhileHolding, TellsOf, Covers}
use Rattle.wit_recordings.specs.Recordings.{TellsOfDeeds, types_in, HasRequest, may_be_clean}

-- ---- the duty, call by call

-- what is told stays told: a history covers each of its beginnings
abbrev pub WhatIsToldStays : Type 0
WhatIsToldStays = (h g : List Entry) → IsBeginning h g → Covers g h

-- the duty at the call e after h, where g is what is written by then: of each pair of types (held,
-- asked) that the call asks for g tells
abbrev pub KeepsDuty : List Entry → Entry → List Entry → Type 0
KeepsDuty g e h = (a b : NamedType) → AsksWhileHolding h e a b → TellsOf g a b

-- so what is written covers all calls as long as the duty is kept at each, whatever else is written
abbrev pub DutyKeepsCover : Type 0
DutyKeepsCover =
    (g more h : List Entry) (e : Entry)
    → Covers g h → IsBeginning g more → KeepsDuty more e h → Covers more (e ∷ h)

-- ---- what it is kept for

-- what a thread has when it asks for a lock that it doesn't hold by the record is recorded
abbrev pub AsksRecorded : Deed → List Deed → Type 0
AsksRecorded (Logged e) v =
    (q : Request) (l : ℕ) → e.call ≡ Check q → is_held e.seat.0 q.lock.0 (log_of v) ≡ false
    → 0 < shares e.seat.0 l v → is_held e.seat.0 l (log_of v) ≡ true
AsksRecorded _ v = Unit {0}

-- so it is at each of these deeds, newest first
abbrev pub AllAskRecorded : List Deed → Type 0
AllAskRecorded [] = Unit {0}
AllAskRecorded (d ∷ v) = AsksRecorded d v × AllAskRecorded v

-- what covers the log of such a run tells of all its deeds. The run need not be a world, where its
-- log is legal
abbrev pub CoverTellsOfRun : Type 0
CoverTellsOfRun =
    (start : Start) (files : List (List ℕ)) (w : List Deed) (g : List Entry)
    → IsLegal start files (log_of w) → Covers g (log_of w)
    → AllAskRecorded w → TellsOfDeeds g (types_in w) w

-- where a clean history covers the log of such a run, no reordering of the run has a deadlock. The
-- run may have been reported, and locks may have been tried in it
abbrev pub RunsCoveredNeverDeadlock : Type 0
RunsCoveredNeverDeadlock =
    (start more : Start) (files named : List (List ℕ)) (v w : List Deed) (g : List Entry)
    (threads : List ℕ)
    → IsLegal start files (log_of w) → Covers g (log_of w) → AllAskRecorded w
    → start_fault more ≡ None → more.blessed ≡ [] → IsLegal more named g
    → is_clean more.profile g ≡ true → IsReordering start v w → IsDeadlock v threads → ⊥

-- an acquisition that was told of isn't recorded where the watch is off, or the chunks have run out
abbrev pub is_unrecorded : Reply → Bool
is_unrecorded Unrecorded = true
is_unrecorded Exhausted = true
is_unrecorded _ = false

-- in a world where that is answered to none, each thread has recorded what it has when it asks
abbrev pub RecordedWorldsAskRecorded : Type 0
RecordedWorldsAskRecorded =
    (start : Start) (files : List (List ℕ)) (w : List Deed) → IsWorld start files w
    → list_all (λ e. not (is_unrecorded e.reply)) (log_of w) ≡ true → AllAskRecorded w

-- ---- a request behind two locks that is left out

-- a lock of each of three types
abbrev three_mutexes : List Deed
three_mutexes = makes_mutex (codes "A") 1 ++ makes_mutex (codes "B") 2 ++ makes_mutex (codes "C") 3

-- t gets lock l by a try
abbrev tries : ℕ → ℕ → ℕ → List Deed
tries t l line =
    TryTake t l Exclusive ∷ by t (NoteTry (record { 0 = l }) Exclusive (at_line line)) Recorded ∷ []

-- the order from the one lock's type to the other's is learnt: alone, or of all held locks
abbrev learns : ℕ → ℕ → Reply
learns l m = Adopted (record { 0 = l }) (record { 0 = m })

abbrev learns_all : ℕ → ℕ → Reply
learns_all l m = AdoptedAll ((record { 0 = l }, record { 0 = m }) ∷ [])

-- a thread asks for C under A, then under B, and then under both, the second of which it got by a
-- try
abbrev pub under_both : List Deed
under_both =
    reverse (three_mutexes
    ++ locks 1 1 1 Pass ++ locks 1 3 2 (learns 1 3) ++ unlocks 1 3 ++ unlocks 1 1
    ++ locks 1 2 3 Pass ++ locks 1 3 4 (learns 2 3) ++ unlocks 1 3 ++ unlocks 1 2
    ++ locks 1 1 5 Pass ++ tries 1 2 6 ++ asks 1 3 7 Pass)

-- a recording has the request under A and that under B alone
abbrev pub under_each : List Deed
under_each =
    reverse (three_mutexes
    ++ locks 1 1 1 Pass ++ asks 1 3 2 (learns_all 1 3)
    ++ locks 2 2 3 Pass ++ asks 2 3 4 (learns_all 2 3))

abbrev mutex_type : List ℕ → NamedType
mutex_type name = (SleepMutex, name)

-- whether C was asked for behind both
abbrev pub HasBehindBoth : List Entry → Type 0
HasBehindBoth h =
    HasRequest h (mutex_type (codes "A") ∷ mutex_type (codes "B") ∷ []) (mutex_type (codes "C"))

-- the run has that request; all is recorded, and its log can't be clean, since a lock was tried
abbrev pub RunAsksBehindBoth : Type 0
RunAsksBehindBoth =
    IsWorld small files under_both
    × (AllAskRecorded under_both
    × (HasBehindBoth (log_of under_both)
    × (may_be_clean Plain (log_of under_both) ≡ false)))

-- the recording doesn't have it, and covers the run's log; it is clean where all held locks are
-- compared with
abbrev pub RecordingLeavesItOut : Type 0
RecordingLeavesItOut =
    (start_fault small_all_held ≡ None)
    × ((small_all_held.blessed ≡ [])
    × (IsLegal small_all_held files (log_of under_each)
    × ((is_clean AllHeld (log_of under_each) ≡ true)
    × (Covers (log_of under_each) (log_of under_both)
    × (HasBehindBoth (log_of under_each) → ⊥)))))

-- ---- what the premises are for

-- a recording with a report: two threads cross, and their log covers itself
abbrev pub ReportedMayDeadlock : Type 0
ReportedMayDeadlock =
    IsWorld small files crossed
    × (AllAskRecorded crossed
    × ((is_clean Plain (log_of crossed) ≡ false)
    × (Covers (log_of crossed) (log_of crossed)
    × IsDeadlock crossed (1 ∷ 2 ∷ []))))

-- a recording that lacks pairs: the empty one, which is covered by the log of those threads
abbrev pub UncoveredMayDeadlock : Type 0
UncoveredMayDeadlock = Covers (log_of crossed) [] × IsDeadlock crossed (1 ∷ 2 ∷ [])

-- t takes lock l while nothing is watched
abbrev takes_unseen : ℕ → ℕ → ℕ → List Deed
takes_unseen t l line =
    asks t l line Pass ++ Take t l Exclusive ∷ by t (Note (record { 0 = l })) Unrecorded ∷ []

-- two threads take a lock each and ask for the other's, while nothing is watched
abbrev pub crossed_unseen : List Deed
crossed_unseen =
    reverse (makes_mutex (codes "A") 1 ++ makes_mutex (codes "B") 2 ++ by 1 (SetWatch Off) Done
    ∷ takes_unseen 1 1 1 ++ takes_unseen 2 2 2 ++ asks 2 1 3 Pass ++ asks 1 2 4 Pass)

-- what they had wasn't recorded: the empty recording covers their log
abbrev pub UnrecordedMayDeadlock : Type 0
UnrecordedMayDeadlock =
    IsWorld small files crossed_unseen
    × (Covers [] (log_of crossed_unseen) × IsDeadlock crossed_unseen (1 ∷ 2 ∷ []))
