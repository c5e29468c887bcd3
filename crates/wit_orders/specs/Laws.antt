-- The laws: what an answer says of the pairs, and of threads that ask for nothing else.
use Rattle.std.specs.Prelude.{◌≡◌, ◌⊎◌, ℕ, ◌+◌, true, List, [], ◌∷◌, ◌++◌, length, Some, is_some}
use Rattle.std.specs.Prelude.{codes}
use Rattle.std.specs.List.{list_all}
use Rattle.wit_model.specs.declared.calls.Entry.{Entry}
use Rattle.wit_model.specs.declared.locks.Class.TheVariants.{SleepMutex}
use Rattle.wit_model.specs.Rules.Clean.{is_clean}
use Rattle.wit_model.specs.Rules.State.{Start}
use Rattle.wit_model.specs.Rules.Step.{IsLegal}
use Rattle.wit_model.specs.World.Deeds.{Deed}
use Rattle.wit_model.specs.World.Examples.{agreed}
use Rattle.wit_model.specs.World.Waiting.{IsDeadlock}
use Rattle.wit_recordings.specs.Recordings.{NamedType, TellsOf, LeadsRoundToNone, may_be_clean}
use Rattle.wit_recordings.specs.Recordings.{AllAskWithin, GoAsInRuns, types_in}
use Rattle.wit_stream.specs.Text.{text_of}
use Rattle.wit_orders.specs.declared.answers.Answer.TheVariants.{Acyclic}
use Rattle.wit_orders.specs.declared.reading.OrderLine.TheVariants.{Pair}
use Rattle.wit_orders.specs.Answers.{answer}
use Rattle.wit_orders.specs.Reading.{type_text, order_line}

-- ---- the pairs of an input

-- some line says the pair (a, b)
abbrev pub SaysPair : List (List ℕ) → NamedType → NamedType → Type 0
SaysPair [] a b = ⊥
SaysPair (line ∷ lines) a b = (order_line line ≡ Some (Pair a b)) ⊎ SaysPair lines a b

-- the pairs of an input
abbrev pub HasPair : List ℕ → NamedType → NamedType → Type 0
HasPair input a b = SaysPair (text_of input).lines a b

-- the pairs of an input lead from one type over these to another
abbrev pub OrdersLead : List ℕ → NamedType → List NamedType → NamedType → Type 0
OrdersLead input a [] b = HasPair input a b
OrdersLead input a (c ∷ over) b = HasPair input a c × OrdersLead input c over b

-- by its pairs no type leads round to itself
abbrev pub OrdersLeadRoundToNone : List ℕ → Type 0
OrdersLeadRoundToNone input = (a : NamedType) (over : List NamedType) → OrdersLead input a over a → ⊥

-- ---- what is said where the answer is that each pair goes forward

-- so it is answered, with these figures
pub record IsAcyclic (input : List ℕ) : Type 0 where
  pub types : ℕ
  pub pairs : ℕ
  pub answered : answer input ≡ Acyclic types pairs

abbrev pub AcyclicLeadsRoundToNone : Type 0
AcyclicLeadsRoundToNone = (input : List ℕ) → IsAcyclic input → OrdersLeadRoundToNone input

-- nothing was passed over: the input is whole lines, each of which says a type or a pair, and all
-- are counted
abbrev pub AcyclicReadsAll : Type 0
AcyclicReadsAll = (input : List ℕ) (is : IsAcyclic input)
    → ((text_of input).tail ≡ [])
    × (list_all (λ line. is_some (order_line line)) (text_of input).lines ≡ true)
    × (is.types + is.pairs ≡ length (text_of input).lines)

-- ---- histories that tell of nothing but these pairs

abbrev pub TellsWithin : List Entry → List ℕ → Type 0
TellsWithin h input = (a b : NamedType) → TellsOf h a b → HasPair input a b

abbrev pub HistoriesLeadRoundToNone : Type 0
HistoriesLeadRoundToNone =
    (input : List ℕ) (h : List Entry) → IsAcyclic input → TellsWithin h input → LeadsRoundToNone h

-- such a history is clean, where nothing but the report of a request can keep it from being so
abbrev pub HistoriesAreClean : Type 0
HistoriesAreClean =
    (input : List ℕ) (start : Start) (files : List (List ℕ)) (h : List Entry)
    → start.lists ≡ [] → IsLegal start files h → may_be_clean start.profile h ≡ true
    → IsAcyclic input → TellsWithin h input → is_clean start.profile h ≡ true

-- ---- threads that ask for nothing but these pairs

-- they never deadlock, whatever else they do
abbrev pub ThreadsWithinNeverDeadlock : Type 0
ThreadsWithinNeverDeadlock =
    (input : List ℕ) (types : ℕ → NamedType) (v : List Deed) (threads : List ℕ)
    → IsAcyclic input → AllAskWithin (HasPair input) types v → IsDeadlock v threads → ⊥

-- nor do threads of several runs together, each of which goes some way of its run
abbrev pub RunsWithinNeverDeadlock : Type 0
RunsWithinNeverDeadlock =
    (input : List ℕ) (types : ℕ → NamedType) (runs : ℕ → List Deed) (v : List Deed)
    (threads : List ℕ)
    → IsAcyclic input → ((t : ℕ) → AllAskWithin (HasPair input) types (runs t))
    → GoAsInRuns runs v → IsDeadlock v threads → ⊥

-- ---- such a certificate, and such threads

abbrev mutex : List ℕ → NamedType
mutex name = (SleepMutex, name)

-- A, B, and A before B
abbrev pub certificate : List ℕ
certificate =
    let a = type_text (mutex (codes "A")) in
    let b = type_text (mutex (codes "B")) in
    a ++ 10 ∷ (b ++ 10 ∷ (a ++ (codes " > " ++ (b ++ 10 ∷ []))))

-- it is answered so, and two threads that take an A and under it a B ask for nothing else
abbrev pub AcyclicIsMet : Type 0
AcyclicIsMet =
    (answer certificate ≡ Acyclic 2 1)
    × AllAskWithin (HasPair certificate) (types_in agreed) agreed
