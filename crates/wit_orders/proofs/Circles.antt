-- Pairs along which a rank rises lead no type round to itself, and threads that keep to them don't
-- deadlock.
use Rattle.std.proofs.Common.{ℕ, ◌<◌, List, [], ◌∷◌, arith}
use Rattle.wit_model.specs.declared.calls.Entry.{Entry}
use Rattle.wit_model.specs.World.Deeds.{Deed}
use Rattle.wit_model.specs.World.Waiting.{IsDeadlock}
use Rattle.wit_recordings.specs.Recordings.{NamedType, PairsLead, LeadsRoundToNone}
use Rattle.wit_recordings.specs.Recordings.{AllAskWithin, GoAsInRuns}
use Rattle.wit_recordings.proofs.Told.{circle-leads}
use Rattle.wit_recordings.proofs.Reordered.{told-played}
use Rattle.wit_orders.specs.Laws.{HasPair, OrdersLead, OrdersLeadRoundToNone, IsAcyclic, TellsWithin}
use Rattle.wit_orders.proofs.Forward.{Rises, acyclic-rises}

module _ (input : List ℕ) (rises : Rises input) where
  way-rises : (a : NamedType) (over : List NamedType) (b : NamedType) → OrdersLead input a over b
      → rises.rank a < rises.rank b
  way-rises a [] b is = rises.rising a b is
  way-rises a (c ∷ over) b is =
      omega (arith, rises.rising a c is.0, way-rises c over b is.1)

  told-rises : (h : List Entry) → TellsWithin h input → (a : NamedType) (over : List NamedType)
      (b : NamedType) → PairsLead h a over b → rises.rank a < rises.rank b
  told-rises h within a [] b is = rises.rising a b (within a b is)
  told-rises h within a (c ∷ over) b is =
      omega (arith, rises.rising a c (within a c is.0), told-rises h within c over b is.1)

  deadlock-rises : (types : ℕ → NamedType) (v : List Deed) (threads : List ℕ)
      → AllAskWithin (HasPair input) types v → IsDeadlock v threads
      → (a : NamedType) × (rises.rank a < rises.rank a)
  deadlock-rises types v threads within circle =
      circle-leads (HasPair input) (λ a b. rises.rank a < rises.rank b) types v rises.rising
      (λ a b c one two. omega (arith, one, two)) within threads circle

pub no-circle : (input : List ℕ) → IsAcyclic input → OrdersLeadRoundToNone input
no-circle input is a over leads =
    absurd (omega (arith, way-rises input (acyclic-rises input is) a over a leads))

pub no-told_circle : (input : List ℕ) (h : List Entry) → IsAcyclic input → TellsWithin h input
    → LeadsRoundToNone h
no-told_circle input h is within a over leads =
    absurd (omega (arith, told-rises input (acyclic-rises input is) h within a over a leads))

pub no-deadlock : (input : List ℕ) (types : ℕ → NamedType) (v : List Deed) (threads : List ℕ)
    → IsAcyclic input → AllAskWithin (HasPair input) types v → IsDeadlock v threads → ⊥
no-deadlock input types v threads is within circle =
    let back = deadlock-rises input (acyclic-rises input is) types v threads within circle in
    absurd (omega (arith, back.1))

pub no-deadlock_of_runs : (input : List ℕ) (types : ℕ → NamedType) (runs : ℕ → List Deed)
    (v : List Deed) (threads : List ℕ) → IsAcyclic input
    → ((t : ℕ) → AllAskWithin (HasPair input) types (runs t)) → GoAsInRuns runs v
    → IsDeadlock v threads → ⊥
no-deadlock_of_runs input types runs v threads is within goes circle =
    no-deadlock input types v threads is
    (told-played (HasPair input) types runs within v goes) circle
