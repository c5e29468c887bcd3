-- A world in which two threads do every sequence and every call, each with a deed of the other
-- between any two of its own.
use Rattle.std.specs.Prelude.{ℕ, List, [], ◌∷◌, ◌++◌, None, reverse, codes}
use Rattle.wit_model.specs.declared.locks.Class.TheVariants.{Rw}
use Rattle.wit_model.specs.declared.locks.LockNo.{LockNo}
use Rattle.wit_model.specs.declared.locks.Mode.{Mode}
use Rattle.wit_model.specs.declared.locks.Mode.TheVariants.{Shared, Exclusive}
use Rattle.wit_model.specs.declared.locks.Watch.TheVariants.{On, Quiet, Off}
use Rattle.wit_model.specs.declared.calls.Call.TheVariants.{Init, Destroy, Check, Note, NoteTry}
use Rattle.wit_model.specs.declared.calls.Call.TheVariants.{GiveUp, Unlock, SetWatch, Upgrade}
use Rattle.wit_model.specs.declared.calls.Call.TheVariants.{Downgrade, NoRelease, ReleaseOk}
use Rattle.wit_model.specs.declared.calls.Call.TheVariants.{DefineOrder}
use Rattle.wit_model.specs.declared.calls.Reply.{Reply}
use Rattle.wit_model.specs.declared.calls.Reply.TheVariants.{Made, Done, Pass, Adopted, Known}
use Rattle.wit_model.specs.declared.calls.Reply.TheVariants.{Recorded, Exhausted, Unrecorded}
use Rattle.wit_model.specs.declared.calls.Reply.TheVariants.{Unlocked}
use Rattle.wit_model.specs.Rules.State.{Start}
use Rattle.wit_model.specs.World.Deeds.{Deed, PassedOver, Take, TryTake, Free, RawUp, RawDown}
use Rattle.wit_model.specs.World.Examples.{small, by, at_line}

-- the deeds of the one list and of the other by turns
abbrev by_turns : List Deed → List Deed → List Deed
by_turns [] others = others
by_turns deeds [] = deeds
by_turns (a ∷ deeds) (b ∷ others) = a ∷ b ∷ by_turns deeds others

abbrev no : ℕ → LockNo
no l = record { 0 = l }

-- t makes a reader/writer lock that may be recursed (0x01)
abbrev makes_rw : ℕ → List ℕ → ℕ → List Deed
makes_rw t name l =
    by t (Init (record { class = Rw; flags = record { 0 = 0x01 }; name = name; type_name = None }))
    (Made (no l))
    ∷ []

-- t asks for it so, and is let pass
abbrev asks_in_mode : ℕ → ℕ → Mode → List Deed
asks_in_mode t l mode =
    by t (Check (record { lock = no l; site = at_line 1; mode = mode; ops = record { 0 = 0x01 } }))
    Pass
    ∷ []

abbrev notes : ℕ → ℕ → List Deed
notes t l = by t (Note (no l)) Recorded ∷ []

abbrev unlocks_in_mode : ℕ → ℕ → Mode → List Deed
unlocks_in_mode t l mode = by t (Unlock (no l) mode) Unlocked ∷ []

-- it is taken shared, turned exclusive and back, turned exclusive although that is refused, and
-- freed; and for a while it must not be
abbrev turns : ℕ → ℕ → List Deed
turns t l =
    asks_in_mode t l Shared ++ Take t l Shared ∷ notes t l
    ++ by t (NoRelease (no l)) Done ∷ by t (ReleaseOk (no l)) Done
    ∷ RawUp t l ∷ by t (Upgrade (no l)) Done ∷ by t (Downgrade (no l)) Done ∷ RawDown t l
    ∷ RawUp t l ∷ RawDown t l
    ∷ unlocks_in_mode t l Shared ++ Free t l ∷ []

-- it is taken once and noted twice, so the first unlock frees nothing; a third request is given up
abbrev recurses : ℕ → ℕ → List Deed
recurses t l =
    asks_in_mode t l Exclusive ++ Take t l Exclusive ∷ notes t l
    ++ asks_in_mode t l Exclusive ++ notes t l
    ++ asks_in_mode t l Exclusive ++ by t (GiveUp (no l)) Done
    ∷ unlocks_in_mode t l Exclusive
    ++ unlocks_in_mode t l Exclusive ++ Free t l ∷ []

-- a try is noted, another one isn't, and a request is given up
abbrev tries_twice : ℕ → ℕ → List Deed
tries_twice t l =
    TryTake t l Exclusive ∷ by t (NoteTry (no l) Exclusive (at_line 2)) Recorded
    ∷ unlocks_in_mode t l Exclusive ++ Free t l
    ∷ TryTake t l Shared ∷ Free t l
    ∷ asks_in_mode t l Exclusive ++ by t (GiveUp (no l)) Done ∷ []

-- less is watched and all again; in between the order of the two locks is defined, and an unlock
-- and a downgrade of a lock that it doesn't hold are passed over
abbrev settles : ℕ → Reply → List Deed
settles t reply =
    by t (SetWatch Quiet) Done
    ∷ by t (DefineOrder (no 1) (no 2)) reply
    ∷ PassedOver t (Unlock (no t) Exclusive)
    ∷ PassedOver t (Downgrade (no t))
    ∷ by t (SetWatch On) Done
    ∷ []

-- where nothing is watched it takes the lock, turns it both ways and frees it
abbrev unwatched : ℕ → ℕ → List Deed
unwatched t l =
    asks_in_mode t l Shared ++ Take t l Shared ∷ by t (Note (no l)) Unrecorded
    ∷ RawUp t l ∷ PassedOver t (Upgrade (no l)) ∷ PassedOver t (Downgrade (no l)) ∷ RawDown t l
    ∷ PassedOver t (Unlock (no l) Shared) ∷ Free t l ∷ []

-- each does all of it, on the one lock or on the other; in the end nothing is watched any more, and
-- both locks are destroyed
abbrev pub varied : List Deed
varied =
    reverse (by_turns (makes_rw 1 (codes "r") 1) (makes_rw 2 (codes "s") 2)
    ++ by_turns (settles 1 (Adopted (record { 0 = 1 }) (record { 0 = 2 }))) (settles 2 Known)
    ++ by_turns (turns 1 1) (turns 2 2)
    ++ by_turns (recurses 1 2) (recurses 2 1)
    ++ by_turns (tries_twice 1 1) (tries_twice 2 2)
    ++ by 1 (SetWatch Off) Done ∷ by_turns (unwatched 1 1) (unwatched 2 2)
    ++ by_turns (by 1 (Destroy (no 1)) Done ∷ []) (by 2 (Destroy (no 2)) Done ∷ []))

-- ---- a world in which the chunks run out

abbrev pub scarce : Start
scarce = record small { sizes = record small.sizes { chunks = 1 } }

-- t asks for the lock and gets it, of which this is recorded
abbrev takes : ℕ → ℕ → Reply → List Deed
takes t l reply = asks_in_mode t l Exclusive ++ Take t l Exclusive ∷ by t (Note (no l)) reply ∷ []

-- the first thread's lock lies in the only chunk; so what the second one takes isn't recorded, nor
-- anything from then on
abbrev pub exhausted : List Deed
exhausted =
    reverse (by_turns (makes_rw 1 (codes "r") 1) (makes_rw 2 (codes "s") 2)
    ++ by_turns (takes 1 1 Recorded) (takes 2 2 Exhausted)
    ++ unlocks_in_mode 1 1 Exclusive ++ Free 1 1 ∷ takes 1 1 Unrecorded)
