-- Small worlds of two threads in which a lock is acquired by a try, where requests are compared
-- with all held locks.
use Rattle.std.specs.Prelude.{ℕ, List, [], ◌∷◌, ◌++◌, reverse, codes}
use Rattle.wit_model.specs.declared.profiles.Profile.TheVariants.{AllHeld}
use Rattle.wit_model.specs.declared.locks.Mode.TheVariants.{Exclusive}
use Rattle.wit_model.specs.declared.locks.TypeNo.{TypeNo}
use Rattle.wit_model.specs.declared.calls.Call.TheVariants.{NoteTry}
use Rattle.wit_model.specs.declared.calls.Reply.TheVariants.{Pass, AdoptedAll, Recorded}
use Rattle.wit_model.specs.Rules.State.{Start}
use Rattle.wit_model.specs.World.Deeds.{Deed, TryTake}
use Rattle.wit_model.specs.World.Examples.{small, by, at_line, makes_mutex, asks, locks, unlocks}
use Rattle.wit_model.specs.World.Examples.{reverses}

abbrev pub small_all_held : Start
small_all_held = record small { profile = AllHeld }

-- t gets lock l by a try
abbrev tries : ℕ → ℕ → ℕ → List Deed
tries t l line =
    TryTake t l Exclusive
    ∷ by t (NoteTry (record { 0 = l }) Exclusive (at_line line)) Recorded
    ∷ []

abbrev pair : ℕ → ℕ → TypeNo × TypeNo
pair l m = (record { 0 = l }, record { 0 = m })

abbrev three_mutexes : List Deed
three_mutexes = makes_mutex (codes "A") 1 ++ makes_mutex (codes "B") 2 ++ makes_mutex (codes "C") 3

-- thread 1 takes B, and gets A by a try
abbrev takes_two : List Deed
takes_two = locks 1 2 1 Pass ++ tries 1 1 2

-- under both it takes C, by which both orders are learnt, and frees all
abbrev thread_alone : List Deed
thread_alone =
    three_mutexes ++ takes_two ++ locks 1 3 3 (AdoptedAll (pair 1 3 ∷ pair 2 3 ∷ []))
    ++ unlocks 1 3 ++ unlocks 1 1 ++ unlocks 1 2

abbrev pub tried : List Deed
tried = reverse thread_alone

-- then thread 2 takes C, and asks for B: that is reported, though A was the last lock held
abbrev pub tried_in_turn : List Deed
tried_in_turn = reverse (thread_alone ++ locks 2 3 4 Pass ++ asks 2 2 5 (reverses 3 4 2 5))

-- the same deeds crossed: the first has B and the second C when each asks for the other's, the
-- second one before the first
abbrev pub tried_crossed : List Deed
tried_crossed =
    reverse (three_mutexes ++ takes_two ++ locks 2 3 4 Pass
    ++ asks 2 2 5 (AdoptedAll (pair 3 2 ∷ [])) ++ asks 1 3 3 (reverses 2 1 3 3))
