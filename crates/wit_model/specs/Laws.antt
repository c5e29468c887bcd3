-- Laws: what holds of every legal history.
use Rattle.std.specs.Prelude.{ℕ, ◌≡◌, ◌≤◌, ◌↔◌, Bool, true, false, ◌||◌, List, [], ◌∷◌, ◌++◌}
use Rattle.std.specs.Prelude.{count_by, None, Some, Ok, IsOk}
use Rattle.wit_model.specs.declared.calls.Adoption.{Adoption}
use Rattle.wit_model.specs.declared.calls.Request.{Request}
use Rattle.wit_model.specs.declared.calls.Call.TheVariants.{Check, Note, GiveUp}
use Rattle.wit_model.specs.declared.calls.Reply.{Reply}
use Rattle.wit_model.specs.declared.calls.Reply.TheVariants.{Done, Exhausted}
use Rattle.wit_model.specs.declared.locks.Watch.TheVariants.{Off}
use Rattle.wit_model.specs.declared.calls.Entry.{Entry}
use Rattle.wit_model.specs.Rules.Orders.{Before, is_before, IsSound}
use Rattle.wit_model.specs.Rules.History.{is_held, pending, watch_of}
use Rattle.wit_model.specs.Rules.State.{Start, Story, state_of, is_seat, is_live, orders_of}
use Rattle.wit_model.specs.Rules.Start.{start_fault}
use Rattle.wit_model.specs.Rules.Step.{is_for, answer_of, logged, IsLegal}

-- no type is before itself after a legal history, where its start is accepted
abbrev pub OrdersStaySound : Type 0
OrdersStaySound =
    (start : Start) (files : List (List ℕ)) (h : List Entry)
    → start_fault start ≡ None → IsLegal start files h → IsSound (orders_of start h)

-- the test finds exactly the types between which a path leads
abbrev pub TestFindsPaths : Type 0
TestFindsPaths =
    (orders : List Adoption) (a b : ℕ) → (is_before orders a b ≡ true) ↔ Before orders a b

-- the note of a request that is pending is accepted
abbrev pub PendingIsNoted : Type 0
PendingIsNoted =
    (s : Story) (t : ℕ) (q : Request)
    → IsLegal s.start s.files s.history → pending t s.history ≡ Some q
    → IsOk (answer_of s t (Note q.lock))

-- and so is its being given up
abbrev pub PendingIsGivenUp : Type 0
PendingIsGivenUp =
    (s : Story) (t : ℕ) (q : Request)
    → IsLegal s.start s.files s.history → pending t s.history ≡ Some q
    → answer_of s t (GiveUp q.lock) ≡ Ok Done

-- the note of a request that passed its check is accepted next
abbrev pub CheckedIsNoted : Type 0
CheckedIsNoted =
    (s : Story) (t : ℕ) (q : Request) (r : Reply)
    → IsLegal s.start s.files s.history → answer_of s t (Check q) ≡ Ok r
    → IsOk (answer_of (logged s t (Check q) r) t (Note q.lock))

-- a lock that a seat holds or asks for was made and isn't destroyed
abbrev pub UsedLocksAreLive : Type 0
UsedLocksAreLive =
    (s : Story) (t l : ℕ) → IsLegal s.start s.files s.history → is_seat (state_of s) t ≡ true
    → (is_held t l s.history || is_for l (pending t s.history)) ≡ true
    → is_live (state_of s) l ≡ true

-- where nothing is watched, nothing is ever watched again
abbrev pub OffIsForGood : Type 0
OffIsForGood =
    (start : Start) (files : List (List ℕ)) (e : Entry) (h : List Entry)
    → IsLegal start files (e ∷ h) → watch_of h ≡ Off → watch_of (e ∷ h) ≡ Off

abbrev pub is_exhaustion : Reply → Bool
is_exhaustion Exhausted = true
is_exhaustion _ = false

-- that no chunk is free is told once at most
abbrev pub IsExhaustedOnce : Type 0
IsExhaustedOnce =
    (start : Start) (files : List (List ℕ)) (h : List Entry) → IsLegal start files h
    → count_by (λ (e : Entry). is_exhaustion e.reply) h ≤ 1

-- a history stays legal where more files are named
abbrev pub FilesMayGrow : Type 0
FilesMayGrow =
    (start : Start) (files : List (List ℕ)) (name : List ℕ) (h : List Entry) → IsLegal start files h
    → IsLegal start (files ++ name ∷ []) h
