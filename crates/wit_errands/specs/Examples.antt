-- Runs of two threads in which a reversal is reported: one of which a reordering hangs, and two of
-- which none does.
use Rattle.std.specs.Prelude.{ℕ, ◌≡◌, true, false, List, [], ◌∷◌, ◌++◌, reverse, codes}
use Rattle.std.specs.List.{list_any}
use Rattle.wit_model.specs.declared.calls.Reply.{Reply}
use Rattle.wit_model.specs.declared.calls.Reply.TheVariants.{Pass, Adopted, Recorded}
use Rattle.wit_model.specs.Rules.History.{reports_of}
use Rattle.wit_model.specs.World.Deeds.{Deed, TryTake, log_of}
use Rattle.wit_model.specs.World.Steps.{IsWorld}
use Rattle.wit_model.specs.World.Waiting.{IsDeadlock}
use Rattle.wit_model.specs.World.Reordering.{IsReordering}
use Rattle.wit_model.specs.World.Examples.{small, files, by, at_line, makes_mutex, asks, locks}
use Rattle.wit_model.specs.World.Examples.{unlocks, reverses, in_turn}
use Rattle.wit_model.specs.declared.locks.Mode.TheVariants.{Exclusive}
use Rattle.wit_model.specs.declared.calls.Call.TheVariants.{NoteTry}
use Rattle.wit_errands.specs.Settled.{IsSettled}
use Rattle.wit_errands.specs.Errands.{Errand, AsksFor, is_in_way}

abbrev learns : ℕ → ℕ → Reply
learns l m = Adopted (record { 0 = l }) (record { 0 = m })

-- the locks are made
abbrev pub two_made : List Deed
two_made = reverse (makes_mutex (codes "A") 1 ++ makes_mutex (codes "B") 2)

-- then the first thread takes A and under it B, and frees both; then the second takes B, and asks
-- for A
abbrev pub then_in_turn : List Deed
then_in_turn =
    reverse (locks 1 1 1 Pass ++ locks 1 2 2 (learns 1 2) ++ unlocks 1 2 ++ unlocks 1 1
    ++ locks 2 2 3 Pass ++ asks 2 1 4 (reverses 2 3 1 4))

-- all that the law asks for
abbrev pub InTurnReverses : Type 0
InTurnReverses =
    (in_turn ≡ then_in_turn ++ two_made) × IsSettled small files two_made then_in_turn
    × ((a : Errand 1 two_made then_in_turn) × (b : Errand 2 two_made then_in_turn) × AsksFor a b
    × AsksFor b a × (list_any (is_in_way 1 a.way) b.way ≡ false))

-- ---- with a gate

abbrev pub three_made : List Deed
three_made =
    reverse (makes_mutex (codes "G") 1 ++ makes_mutex (codes "A") 2 ++ makes_mutex (codes "B") 3)

-- both take G first: under it the first thread takes A and then B, and frees all; and the second
-- takes B, and asks for A
abbrev pub then_gated : List Deed
then_gated =
    reverse (locks 1 1 1 Pass ++ locks 1 2 2 (learns 1 2) ++ locks 1 3 3 (learns 2 3)
    ++ unlocks 1 3 ++ unlocks 1 2 ++ unlocks 1 1
    ++ locks 2 1 4 Pass ++ locks 2 3 5 (learns 1 3) ++ asks 2 2 6 (reverses 3 5 2 6))

abbrev pub gated : List Deed
gated = then_gated ++ three_made

-- a reversal is reported, and each thread asks for what the other one has at its request
abbrev pub GatedReverses : Type 0
GatedReverses =
    IsWorld small files gated × (reports_of (log_of gated) ≡ 1)
    × ((a : Errand 1 three_made then_gated) × (b : Errand 2 three_made then_gated) × AsksFor a b
    × AsksFor b a)

-- and no reordering hangs
abbrev pub GatedHasNone : Type 0
GatedHasNone =
    (v : List Deed) (threads : List ℕ) → IsReordering small v gated → IsDeadlock v threads → ⊥

-- ---- barred otherwise

-- t gets lock l by a try
abbrev pub tries : ℕ → ℕ → ℕ → List Deed
tries t l line =
    TryTake t l Exclusive
    ∷ by t (NoteTry (record { 0 = l }) Exclusive (at_line line)) Recorded
    ∷ []

-- the first thread takes A, and under it gets B by a try, frees it and takes it; then the second
-- one does so the other way round, up to its request
abbrev pub then_barred : List Deed
then_barred =
    reverse (locks 1 1 1 Pass ++ tries 1 2 2 ++ unlocks 1 2 ++ locks 1 2 3 (learns 1 2)
    ++ unlocks 1 2 ++ unlocks 1 1
    ++ locks 2 2 4 Pass ++ tries 2 1 5 ++ unlocks 2 1 ++ asks 2 1 6 (reverses 2 4 1 6))

abbrev pub barred : List Deed
barred = then_barred ++ two_made

-- a reversal is reported, and each thread asks for what the other one has at its request; but on
-- its way each one needs what the other one has then
abbrev pub BarredReverses : Type 0
BarredReverses =
    IsWorld small files barred × (reports_of (log_of barred) ≡ 1)
    × ((a : Errand 1 two_made then_barred) × (b : Errand 2 two_made then_barred) × AsksFor a b
    × AsksFor b a × (list_any (is_in_way 1 a.way) b.way ≡ true)
    × (list_any (is_in_way 2 b.way) a.way ≡ true))

-- and no reordering hangs
abbrev pub BarredHasNone : Type 0
BarredHasNone =
    (v : List Deed) (threads : List ℕ) → IsReordering small v barred → IsDeadlock v threads → ⊥
