-- Laws of worlds: where a run reported nothing, no reordering of its threads' deeds reaches a
-- deadlock.
use Rattle.std.specs.Prelude.{ℕ, ◌<◌, ◌≡◌, true, false, List, [], ◌∷◌, ◌++◌, None}
use Rattle.wit_model.specs.declared.profiles.Profile.{Profile}
use Rattle.wit_model.specs.declared.profiles.Profile.TheVariants.{Plain, AllHeld}
use Rattle.wit_model.specs.declared.locks.Mode.{Mode}
use Rattle.wit_model.specs.declared.locks.Mode.TheVariants.{Shared}
use Rattle.wit_model.specs.declared.locks.Site.{Site}
use Rattle.wit_model.specs.declared.calls.Request.{Request}
use Rattle.wit_model.specs.declared.calls.Call.TheVariants.{NoteTry}
use Rattle.wit_model.specs.declared.calls.Reply.{Reply}
use Rattle.wit_model.specs.declared.calls.Entry.{Entry}
use Rattle.wit_model.specs.Rules.History.{is_held, own_entries}
use Rattle.wit_model.specs.Rules.State.{Start}
use Rattle.wit_model.specs.Rules.Start.{start_fault}
use Rattle.wit_model.specs.Rules.Verdict.{is_exclusive}
use Rattle.wit_model.specs.Rules.Step.{story_after, IsLegal}
use Rattle.wit_model.specs.Rules.Clean.{is_clean, CleanMeansNoCircle}
use Rattle.wit_model.specs.World.Deeds.{Deed, RawUp, own, log_of, shares, raw_mode}
use Rattle.wit_model.specs.World.Stages.{Asked, stage}
use Rattle.wit_model.specs.World.Steps.{admits, IsWorld}
use Rattle.wit_model.specs.World.Waiting.{IsWaiting, IsDeadlock}
use Rattle.wit_model.specs.World.Reordering.{IsReordering}
use Rattle.wit_model.specs.World.Examples.{small, files, by, in_turn, crossed, agreed, defined}
use Rattle.wit_model.specs.World.Examples.{defined_before}
use Rattle.wit_model.specs.World.Tried.{small_all_held, tried, tried_in_turn, tried_crossed}
use Rattle.wit_model.specs.World.Sequences.{varied, scarce, exhausted}

-- no reordering of a world whose log is clean has a deadlock, over an accepted start that blesses
-- no pair
abbrev pub CleanRunsNeverDeadlock : Profile → Type 0
CleanRunsNeverDeadlock profile =
    (start : Start) (files : List (List ℕ)) (v w : List Deed) (threads : List ℕ)
    → start.profile ≡ profile → start_fault start ≡ None → start.blessed ≡ []
    → IsWorld start files w → is_clean profile (log_of w) ≡ true → IsReordering start v w
    → IsDeadlock v threads → ⊥

-- a world without a deadlock, and a reordering of it that has one
abbrev pub InTurnIsWorld : Type 0
InTurnIsWorld = (start_fault small ≡ None) × IsWorld small files in_turn

abbrev pub InTurnHasNone : Type 0
InTurnHasNone = (threads : List ℕ) → IsDeadlock in_turn threads → ⊥

abbrev pub CrossedReorders : Type 0
CrossedReorders = IsReordering small crossed in_turn

abbrev pub CrossedDeadlocks : Type 0
CrossedDeadlocks = IsDeadlock crossed (1 ∷ 2 ∷ [])

-- a reordering in which the defining of an order is answered otherwise: where it was new it is
-- known, and where it was known it is new
abbrev pub DefinedIsWorld : Type 0
DefinedIsWorld = (start_fault small ≡ None) × IsWorld small files defined

abbrev pub DefinedBeforeReorders : Type 0
DefinedBeforeReorders = IsReordering small defined_before defined

-- a world whose log is clean
abbrev pub AgreedIsWorld : Type 0
AgreedIsWorld = (start_fault small ≡ None) × IsWorld small files agreed

abbrev pub AgreedIsClean : Type 0
AgreedIsClean = (small.blessed ≡ []) × (is_clean Plain (log_of agreed) ≡ true)

-- where requests are compared with all held locks: a world with a try whose log is clean
abbrev pub TriedIsWorld : Type 0
TriedIsWorld = (start_fault small_all_held ≡ None) × IsWorld small_all_held files tried

abbrev pub TriedIsClean : Type 0
TriedIsClean = (small_all_held.blessed ≡ []) × (is_clean AllHeld (log_of tried) ≡ true)

-- and one in which a report was made, with a reordering that has a deadlock
abbrev pub TriedInTurnIsWorld : Type 0
TriedInTurnIsWorld =
    IsWorld small_all_held files tried_in_turn × (is_clean AllHeld (log_of tried_in_turn) ≡ false)

abbrev pub TriedCrossedReorders : Type 0
TriedCrossedReorders = IsReordering small_all_held tried_crossed tried_in_turn

abbrev pub TriedCrossedDeadlocks : Type 0
TriedCrossedDeadlocks = IsDeadlock tried_crossed (1 ∷ 2 ∷ [])

-- a world in which each sequence and each call comes, with a deed of another thread between any two
-- of one
abbrev pub VariedIsWorld : Type 0
VariedIsWorld = (start_fault small ≡ None) × IsWorld small files varied

-- and one in which the chunks run out
abbrev pub ExhaustedIsWorld : Type 0
ExhaustedIsWorld = (start_fault scarce ≡ None) × IsWorld scarce files exhausted

-- of two threads that have shares of a lock neither has it exclusively
abbrev pub ExclusiveIsAlone : Type 0
ExclusiveIsAlone =
    (start : Start) (files : List (List ℕ)) (w : List Deed) (t u l : ℕ)
    → IsWorld start files w → (u ≡ t → ⊥) → 0 < shares t l w → 0 < shares u l w
    → is_exclusive (raw_mode t l w) ≡ false

-- who tells of a try has a share of the lock, in the mode that it tells
abbrev pub TriesAreNotedAsHad : Type 0
TriesAreNotedAsHad =
    (start : Start) (files : List (List ℕ)) (w : List Deed) (t l : ℕ) (mode : Mode) (site : Site)
    (reply : Reply) → IsWorld start files (by t (NoteTry (record { 0 = l }) mode site) reply ∷ w)
    → (0 < shares t l w) × (raw_mode t l w ≡ mode)

-- who turns a lock exclusive has one share of it, a shared one
abbrev pub OnlySharedIsRaised : Type 0
OnlySharedIsRaised =
    (start : Start) (files : List (List ℕ)) (w : List Deed) (t l : ℕ)
    → IsWorld start files (RawUp t l ∷ w) → (shares t l w ≡ 1) × (raw_mode t l w ≡ Shared)

-- who waits for another can't have the lock
abbrev pub WaitersAreBarred : Type 0
WaitersAreBarred =
    (start : Start) (files : List (List ℕ)) (w : List Deed) (t u : ℕ) (x : IsWaiting w t u)
    → IsWorld start files w → admits start.sizes.seats x.request.lock.0 x.request.mode w ≡ false

-- and who can't have a lock that it asks for, and of which it has nothing itself, waits for another
abbrev pub BarredOnesWait : Type 0
BarredOnesWait =
    (threads : ℕ) (w : List Deed) (t : ℕ) (q : Request)
    → stage t (own t w) ≡ Asked q → is_held t q.lock.0 (log_of w) ≡ false → shares t q.lock.0 w ≡ 0
    → admits threads q.lock.0 q.mode w ≡ false → (u : ℕ) × IsWaiting w t u

-- no thread alone is a deadlock
abbrev pub DeadlocksTakeTwo : Type 0
DeadlocksTakeTwo = (w : List Deed) (t : ℕ) → IsDeadlock w (t ∷ []) → ⊥

-- the run itself reorders it, and so does each of its moments
abbrev pub MomentsReorder : Type 0
MomentsReorder =
    (start : Start) (files : List (List ℕ)) (later w : List Deed) → IsWorld start files (later ++ w)
    → IsReordering start w (later ++ w)

-- the log of a world is a legal history
abbrev pub WorldsAreLegal : Type 0
WorldsAreLegal =
    (start : Start) (files : List (List ℕ)) (w : List Deed) → IsWorld start files w
    → IsLegal start files (log_of w)

-- and of a thread's own deeds it has that thread's entries
abbrev pub OwnDeedsAreLogged : Type 0
OwnDeedsAreLogged = (t : ℕ) (w : List Deed) → log_of (own t w) ≡ own_entries t (log_of w)

-- a clean legal history leaves no circle of the record
abbrev pub CleanRecordsHaveNoCircle : Type 0
CleanRecordsHaveNoCircle =
    (start : Start) (files : List (List ℕ)) (h : List Entry)
    → start_fault start ≡ None → IsLegal start files h
    → CleanMeansNoCircle (story_after start files h)
