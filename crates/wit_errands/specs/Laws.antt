-- Laws of errands.
use Rattle.std.specs.Prelude.{ℕ, ◌<◌, ◌≡◌, ◌↔◌, true, false, List, [], ◌∷◌, ◌++◌, map}
use Rattle.std.specs.List.{list_any}
use Rattle.wit_model.specs.declared.calls.Request.{Request}
use Rattle.wit_model.specs.Rules.Beginnings.{IsBeginning}
use Rattle.wit_model.specs.Rules.State.{Start}
use Rattle.wit_model.specs.Rules.Verdict.{is_exclusive}
use Rattle.wit_model.specs.World.Deeds.{Deed, own, shares, raw_mode}
use Rattle.wit_model.specs.World.Stages.{Asked, stage}
use Rattle.wit_model.specs.World.Steps.{IsWorld}
use Rattle.wit_model.specs.World.Waiting.{IsDeadlock}
use Rattle.wit_model.specs.World.Reordering.{kept, IsReordering}
use Rattle.wit_errands.specs.Settled.{IsSettled, gets, are_free}
use Rattle.wit_errands.specs.Copies.{Copier, copying, AllCopied, IsCopiedRound, MeetCopied}
use Rattle.wit_errands.specs.Errands.{Errand, AsksFor, keeps, is_in_way, IsAtRequest}
use Rattle.wit_errands.specs.Errands.{Asker, IsRound}
use Rattle.wit_errands.specs.Errands.{AreApart, AreDistinct, threads_of, Meet, AllAtRequest}

-- after the first part of a settled run, deeds of its threads can come in any sequence that the
-- locks admit
abbrev pub LocksDecide : Type 0
LocksDecide =
    (start : Start) (files : List (List ℕ)) (first deeds others : List Deed)
    → IsSettled start files first deeds
    → ((t : ℕ) → IsBeginning (map kept (own t others)) (map kept (own t deeds)))
    → are_free start.sizes.seats others ≡ true
    → (v : List Deed) × (map kept v ≡ map kept others)
    × IsReordering start (v ++ first) (deeds ++ first)

-- where two threads ask for what the other one has, and nothing on the way of the second needs what
-- the first has at its request, a reordering reaches a deadlock of the two
abbrev pub ReversalsHang : Type 0
ReversalsHang =
    (start : Start) (files : List (List ℕ)) (first deeds : List Deed) (t u : ℕ)
    (a : Errand t first deeds) (b : Errand u first deeds)
    → IsSettled start files first deeds → (u ≡ t → ⊥) → AsksFor a b → AsksFor b a
    → list_any (is_in_way t a.way) b.way ≡ false
    → (v : List Deed) × IsReordering start v (deeds ++ first) × IsDeadlock v (t ∷ u ∷ [])

-- where threads ask for what the next one has, in a round, and their errands alone can be gone
-- together, a reordering reaches a deadlock of these threads
abbrev pub MeetingErrandsHang : Type 0
MeetingErrandsHang =
    (start : Start) (files : List (List ℕ)) (first deeds : List Deed)
    (askers : List (Asker first deeds))
    → IsSettled start files first deeds → AreApart askers → IsRound askers
    → Meet start.sizes.seats askers
    → (v : List Deed) × IsReordering start (v ++ first) (deeds ++ first)
    × IsDeadlock (v ++ first) (threads_of askers)

-- where nobody gets a lock in the first part, threads that a reordering leads to a deadlock are each
-- at the end of an errand
abbrev pub HangingThreadsAsk : Type 0
HangingThreadsAsk =
    (start : Start) (first deeds v : List Deed) (threads : List ℕ) → list_any gets first ≡ false
    → IsReordering start v (deeds ++ first) → IsDeadlock v threads
    → (askers : List (Asker first deeds)) × (threads_of askers ≡ threads) × AllAtRequest askers v

-- and in whatever errands led there, from whichever moments without a lock, each asks for what the
-- next one has, in a round, and the errands alone can be gone together
abbrev pub HangingErrandsMeet : Type 0
HangingErrandsMeet =
    (start : Start) (first deeds v : List Deed) (askers : List (Asker first deeds))
    → ((t l : ℕ) → shares t l first ≡ 0) → AreApart askers → IsReordering start v (deeds ++ first)
    → IsDeadlock v (threads_of askers) → AllAtRequest askers v
    → IsRound askers × Meet start.sizes.seats askers

-- so where nobody gets a lock in the first part of a settled run, a reordering reaches a deadlock of
-- these threads exactly where they have errands that ask in a round and can be gone together
abbrev pub ErrandsDecide : Type 0
ErrandsDecide =
    (start : Start) (files : List (List ℕ)) (first deeds : List Deed) (threads : List ℕ)
    → IsSettled start files first deeds → list_any gets first ≡ false → AreDistinct threads
    → ((v : List Deed) × IsReordering start v (deeds ++ first) × IsDeadlock v threads)
    ↔ ((askers : List (Asker first deeds)) × (threads_of askers ≡ threads) × IsRound askers
    × Meet start.sizes.seats askers)

-- two threads that have one lock at their requests, and not both as readers, are never there at one
-- moment
abbrev pub GatesKeepApart : Type 0
GatesKeepApart =
    (start : Start) (first deeds v : List Deed) (t u l : ℕ) (a : Errand t first deeds)
    (b : Errand u first deeds)
    → ((i k : ℕ) → shares i k first ≡ 0) → (u ≡ t → ⊥) → 0 < shares t l a.way
    → keeps u b.way l (raw_mode t l a.way) ≡ true → IsReordering start v (deeds ++ first)
    → IsAtRequest a v → IsAtRequest b v → ⊥

-- whoever asks for a lock while it has one has the gate, exclusively
abbrev pub IsGated : ℕ → List Deed → Type 0
IsGated gate w =
    (later now : List Deed) (t l : ℕ) (q : Request) → w ≡ later ++ now
    → stage t (own t now) ≡ Asked q → 0 < shares t l now
    → (0 < shares t gate now) × (is_exclusive (raw_mode t gate now) ≡ true)

-- no reordering of such a run has a deadlock
abbrev pub GatedRunsNeverHang : Type 0
GatedRunsNeverHang =
    (start : Start) (v w : List Deed) (threads : List ℕ) (gate : ℕ) → IsGated gate w
    → IsReordering start v w → IsDeadlock v threads → ⊥

-- threads of whatever world that are in a deadlock, each of which did what an errand of the run was,
-- since it had nothing, do copies of errands that ask in a round and can be gone together
abbrev pub HangingCopiesMeet : Type 0
HangingCopiesMeet =
    (start : Start) (files : List (List ℕ)) (first deeds v : List Deed)
    (copiers : List (Copier first deeds))
    → IsWorld start files v → IsDeadlock v (copying copiers) → AllCopied v copiers
    → IsCopiedRound copiers × MeetCopied start.sizes.seats copiers
