-- Recordings: what a clean history says of threads whose calls it needn't have. A recording knows a
-- lock by its type alone, that is by a class and a name, so its seats and its numbers of locks need
-- not be those of the threads.
use Rattle.std.specs.Prelude.{ℕ, ◌<◌, ◌≡◌, ◌⊎◌, Bool, true, false, not, ◌&&◌, List, [], ◌∷◌, ◌++◌}
use Rattle.std.specs.Prelude.{None, length, map, reverse, codes}
use Rattle.std.specs.List.{list_all}
use Rattle.wit_model.specs.declared.profiles.Profile.{Profile}
use Rattle.wit_model.specs.declared.profiles.Profile.TheVariants.{Plain}
use Rattle.wit_model.specs.declared.locks.Class.{Class}
use Rattle.wit_model.specs.declared.locks.Class.TheVariants.{Sx}
use Rattle.wit_model.specs.declared.calls.NewLock.{NewLock}
use Rattle.wit_model.specs.declared.calls.Request.{Request}
use Rattle.wit_model.specs.declared.calls.Call.{Call}
use Rattle.wit_model.specs.declared.calls.Call.TheVariants.{Init, Check, DefineOrder}
use Rattle.wit_model.specs.declared.calls.Reply.{Reply}
use Rattle.wit_model.specs.declared.calls.Reply.TheVariants.{Pass, Adopted, Exhausted}
use Rattle.wit_model.specs.declared.calls.Entry.{Entry}
use Rattle.wit_model.specs.Rules.Types.{type_name_of, is_same_class}
use Rattle.wit_model.specs.Rules.Locks.{locks_of, lock_of}
use Rattle.wit_model.specs.Rules.Beginnings.{IsBeginning}
use Rattle.wit_model.specs.Rules.History.{is_held, held}
use Rattle.wit_model.specs.Rules.State.{Start}
use Rattle.wit_model.specs.Rules.Start.{start_fault}
use Rattle.wit_model.specs.Rules.Step.{IsLegal}
use Rattle.wit_model.specs.Rules.Clean.{is_clean_call, is_clean}
use Rattle.wit_model.specs.World.Deeds.{Deed, Logged, own, log_of, shares}
use Rattle.wit_model.specs.World.Examples.{small, files, makes_mutex, locks, asks, agreed, in_turn}
use Rattle.wit_model.specs.World.Examples.{crossed}
use Rattle.wit_model.specs.World.Steps.{IsWorld}
use Rattle.wit_model.specs.World.Waiting.{IsDeadlock}
use Rattle.wit_model.specs.World.Reordering.{kept, IsReordering}

-- ---- what a history tells of

-- a type, as every history knows it
abbrev pub NamedType : Type 0
NamedType = Class × List ℕ

abbrev pub named_type : NewLock → NamedType
named_type lock = (lock.class, type_name_of lock)

-- by the entry e a seat asks for a lock of type b, which it doesn't hold, while it holds one of
-- type a
pub record AsksWhileHolding (h : List Entry) (e : Entry) (a b : NamedType) : Type 0 where
  pub request : Request
  pub asks : e.call ≡ Check request
  pub unheld : is_held e.seat.0 request.lock.0 h ≡ false
  pub other : ℕ
  pub holds : is_held e.seat.0 other h ≡ true
  pub first : named_type (lock_of (locks_of h) other) ≡ a
  pub second : named_type (lock_of (locks_of h) request.lock.0) ≡ b

-- a history tells of the pair (a, b) where some entry asks for a lock of type b under one of type a
abbrev pub TellsOf : List Entry → NamedType → NamedType → Type 0
TellsOf [] a b = ⊥
TellsOf (e ∷ h) a b = AsksWhileHolding h e a b ⊎ TellsOf h a b

-- g covers h: it tells of each pair that h tells of
abbrev pub Covers : List Entry → List Entry → Type 0
Covers g h = (a b : NamedType) → TellsOf h a b → TellsOf g a b

-- the pairs of a history lead from one type over these to another
abbrev pub PairsLead : List Entry → NamedType → List NamedType → NamedType → Type 0
PairsLead h a [] b = TellsOf h a b
PairsLead h a (c ∷ over) b = TellsOf h a c × PairsLead h c over b

-- ---- the threads that a history tells of

-- a thread asks within these pairs of types where, if it asks for a lock that it doesn't hold by the
-- record, each lock that it has a share of makes a pair with that one
abbrev pub AsksWithin : (NamedType → NamedType → Type 0) → (ℕ → NamedType) → Deed → List Deed
    → Type 0
AsksWithin Pairs types (Logged e) v =
    (q : Request) (l : ℕ) → e.call ≡ Check q → is_held e.seat.0 q.lock.0 (log_of v) ≡ false
    → 0 < shares e.seat.0 l v → Pairs (types l) (types q.lock.0)
AsksWithin Pairs types _ v = Unit {0}

-- so it is by each of these deeds, whose locks are of these types
abbrev pub AllAskWithin : (NamedType → NamedType → Type 0) → (ℕ → NamedType) → List Deed → Type 0
AllAskWithin Pairs types [] = Unit {0}
AllAskWithin Pairs types (d ∷ v) = AsksWithin Pairs types d v × AllAskWithin Pairs types v

-- the history h tells of these deeds
abbrev pub TellsOfDeeds : List Entry → (ℕ → NamedType) → List Deed → Type 0
TellsOfDeeds h types v = AllAskWithin (TellsOf h) types v

-- threads of which a clean history tells never deadlock. Nothing else is asked of them: they need
-- keep to no rules, and may be answered anything
abbrev pub ThreadsToldOfNeverDeadlock : Type 0
ThreadsToldOfNeverDeadlock =
    (start : Start) (files : List (List ℕ)) (h : List Entry) (types : ℕ → NamedType)
    (v : List Deed) (threads : List ℕ)
    → start_fault start ≡ None → start.blessed ≡ []
    → IsLegal start files h → is_clean start.profile h ≡ true
    → TellsOfDeeds h types v → IsDeadlock v threads → ⊥

-- the threads of v have each a run of their own, and go some way of it, as others let them
abbrev pub GoAsInRuns : (ℕ → List Deed) → List Deed → Type 0
GoAsInRuns runs v = (t : ℕ) → IsBeginning (map kept (own t v)) (map kept (own t (runs t)))

-- a history that tells of each of the runs tells of them together, in any order
abbrev pub RunsToldAreToldMixed : Type 0
RunsToldAreToldMixed =
    (h : List Entry) (types : ℕ → NamedType) (runs : ℕ → List Deed) (v : List Deed)
    → ((t : ℕ) → TellsOfDeeds h types (runs t)) → GoAsInRuns runs v → TellsOfDeeds h types v

-- the types of a run's own locks
abbrev pub types_in : List Deed → ℕ → NamedType
types_in w l = named_type (lock_of (locks_of (log_of w)) l)

-- where a clean history tells of a run, no reordering of the run has a deadlock. The run itself may
-- have been reported
abbrev pub RunsToldOfNeverDeadlock : Type 0
RunsToldOfNeverDeadlock =
    (start : Start) (files : List (List ℕ)) (h : List Entry) (run : Start) (v w : List Deed)
    (threads : List ℕ)
    → start_fault start ≡ None → start.blessed ≡ []
    → IsLegal start files h → is_clean start.profile h ≡ true
    → TellsOfDeeds h (types_in w) w → IsReordering run v w → IsDeadlock v threads → ⊥

-- where one clean history tells of several runs, their threads don't deadlock together either
abbrev pub RunsTogetherNeverDeadlock : Type 0
RunsTogetherNeverDeadlock =
    (start : Start) (files : List (List ℕ)) (h : List Entry) (types : ℕ → NamedType)
    (runs : ℕ → List Deed) (v : List Deed) (threads : List ℕ)
    → start_fault start ≡ None → start.blessed ≡ []
    → IsLegal start files h → is_clean start.profile h ≡ true
    → ((t : ℕ) → TellsOfDeeds h types (runs t)) → GoAsInRuns runs v → IsDeadlock v threads → ⊥

-- a history that covers another one tells of all deeds that the other tells of
abbrev pub MorePairsTellMore : Type 0
MorePairsTellMore =
    (h g : List Entry) (types : ℕ → NamedType) (v : List Deed)
    → Covers g h → TellsOfDeeds h types v → TellsOfDeeds g types v

-- ---- a short recording, and one with a report

-- one seat asks once for a B under an A; a lock of a third type was made before these two
abbrev pub recorded_once : List Deed
recorded_once =
    reverse (makes_mutex (codes "C") 1 ++ makes_mutex (codes "A") 2
    ++ makes_mutex (codes "B") 3 ++ locks 2 2 1 Pass
    ++ asks 2 3 2 (Adopted (record { 0 = 2 }) (record { 0 = 3 })))

abbrev pub ShorterIsClean : Type 0
ShorterIsClean =
    (start_fault small ≡ None) × ((small.blessed ≡ [])
    × (IsLegal small files (log_of recorded_once)
    × (is_clean Plain (log_of recorded_once) ≡ true)))

-- it tells of a run of two threads, and is shorter than the run's log
abbrev pub ShorterTells : Type 0
ShorterTells =
    TellsOfDeeds (log_of recorded_once) (types_in agreed) agreed
    × (length (log_of recorded_once) < length (log_of agreed))

-- the log of a run in which a reversal was reported: it tells of threads that deadlock
abbrev pub ReportedTellsOfDeadlock : Type 0
ReportedTellsOfDeadlock =
    TellsOfDeeds (log_of in_turn) (types_in in_turn) crossed
    × ((is_clean Plain (log_of in_turn) ≡ false) × IsDeadlock crossed (1 ∷ 2 ∷ []))

-- ---- which histories are clean

-- by its pairs no type leads round to itself
abbrev pub LeadsRoundToNone : List Entry → Type 0
LeadsRoundToNone h = (a : NamedType) (over : List NamedType) → PairsLead h a over a → ⊥

abbrev pub CleanLeadsRoundToNone : Type 0
CleanLeadsRoundToNone =
    (start : Start) (files : List (List ℕ)) (h : List Entry)
    → start_fault start ≡ None → start.blessed ≡ [] → IsLegal start files h
    → is_clean start.profile h ≡ true → LeadsRoundToNone h

-- by this call no order comes but from checks: it makes no sx lock, and defines none
abbrev pub leaves_order_to_checks : Call → Bool
leaves_order_to_checks (Init lock) = not (is_same_class lock.class Sx)
leaves_order_to_checks (DefineOrder a b) = false
leaves_order_to_checks _ = true

abbrev pub is_exhausted : Reply → Bool
is_exhausted Exhausted = true
is_exhausted _ = false

abbrev pub may_be_clean_entry : Profile → Entry → Bool
may_be_clean_entry profile e =
    is_clean_call profile e.call && (leaves_order_to_checks e.call && not (is_exhausted e.reply))

-- whether the report of a request is all that can keep a history from being clean, and each order
-- comes from a check
abbrev pub may_be_clean : Profile → List Entry → Bool
may_be_clean profile h = list_all (may_be_clean_entry profile) h

abbrev pub RoundToNoneIsClean : Type 0
RoundToNoneIsClean =
    (start : Start) (files : List (List ℕ)) (h : List Entry)
    → start.lists ≡ [] → IsLegal start files h → may_be_clean start.profile h ≡ true
    → LeadsRoundToNone h → is_clean start.profile h ≡ true

-- such a history is clean where a clean one covers it: as a shorter recording of one run does, or
-- one recording of several runs
abbrev pub FewerPairsAreClean : Type 0
FewerPairsAreClean =
    (start more : Start) (files named : List (List ℕ)) (h g : List Entry)
    → start.lists ≡ [] → IsLegal start files h → may_be_clean start.profile h ≡ true
    → start_fault more ≡ None → more.blessed ≡ [] → IsLegal more named g
    → is_clean more.profile g ≡ true
    → Covers g h → is_clean start.profile h ≡ true

-- ---- requests that a recorder leaves out

-- the types of the locks that a seat holds, the oldest lock first
abbrev pub chain_types : ℕ → List Entry → List NamedType
chain_types t h = map (λ l. named_type (lock_of (locks_of h) l)) (held t h)

-- by the entry e a seat asks for a lock of type b, which it doesn't hold, behind a chain of just
-- these types
pub record AsksBehindChain (h : List Entry) (e : Entry) (chain : List NamedType)
    (b : NamedType) : Type 0 where
  pub request : Request
  pub asks : e.call ≡ Check request
  pub unheld : is_held e.seat.0 request.lock.0 h ≡ false
  pub first : chain_types e.seat.0 h ≡ chain
  pub second : named_type (lock_of (locks_of h) request.lock.0) ≡ b

abbrev pub HasRequest : List Entry → List NamedType → NamedType → Type 0
HasRequest [] chain b = ⊥
HasRequest (e ∷ h) chain b = AsksBehindChain h e chain b ⊎ HasRequest h chain b

-- g condenses h: what h asks for behind held locks, g asks for behind locks of the same types, at
-- least once
abbrev pub Condenses : List Entry → List Entry → Type 0
Condenses g h = (a : NamedType) (chain : List NamedType) (b : NamedType)
    → HasRequest h (a ∷ chain) b → HasRequest g (a ∷ chain) b

abbrev pub CondensedTellsOfAll : Type 0
CondensedTellsOfAll =
    (start : Start) (files : List (List ℕ)) (h g : List Entry)
    → IsLegal start files h → Condenses g h → Covers g h

-- where a clean history condenses the log of a run, no reordering of the run has a deadlock
abbrev pub RunsCondensedNeverDeadlock : Type 0
RunsCondensedNeverDeadlock =
    (start more : Start) (files named : List (List ℕ)) (v w : List Deed) (g : List Entry)
    (threads : List ℕ)
    → start_fault start ≡ None → start.lists ≡ [] → start.blessed ≡ []
    → IsWorld start files w → may_be_clean start.profile (log_of w) ≡ true
    → start_fault more ≡ None → more.blessed ≡ [] → IsLegal more named g
    → is_clean more.profile g ≡ true
    → Condenses g (log_of w) → IsReordering start v w → IsDeadlock v threads → ⊥

-- the short recording condenses the log of its run
abbrev pub ShorterCondenses : Type 0
ShorterCondenses =
    (small.lists ≡ [])
    × ((may_be_clean Plain (log_of agreed) ≡ true)
    × Condenses (log_of recorded_once) (log_of agreed))
