-- What a shared verifier publishes for observers: its adopted orders. Lists of entries are newest
-- first.
use Rattle.std.specs.Prelude.{ℕ, ◌≡◌, true, List, [], Result, Ok, Err}
use Rattle.wit_model.specs.declared.faults.Fault.{Fault}
use Rattle.wit_model.specs.declared.calls.Adoption.{Adoption}
use Rattle.wit_model.specs.declared.calls.Call.{Call}
use Rattle.wit_model.specs.declared.calls.Entry.{Entry}
use Rattle.wit_model.specs.declared.calls.Reply.{Reply}
use Rattle.wit_model.specs.Rules.Orders.{adopted, is_direct, orders_from}
use Rattle.wit_model.specs.Rules.State.{Story}
pub use Rattle.wit_model.specs.HistoryLaws.{adoptions}
use Rattle.wit_model.specs.Rules.Step.{AnswersOrFails}
use Rattle.wit_observers.specs.Shown.{Published}

-- what a verifier's publisher has published: all that is adopted, and it takes orders between all
-- types that there may be
abbrev pub published : Story → Published
published s = record { orders = adoptions s.start s.history; size = s.start.sizes.types }

-- the orders that the replies of these entries name
abbrev pub orders_named : List Entry → List Adoption
orders_named own = orders_from [] own

-- each pair that these entries name as adopted is among these orders
abbrev pub IsNamedIn : List Entry → List Adoption → Type 0
IsNamedIn own orders = (a b : ℕ) → is_direct (orders_named own) a b ≡ true
    → is_direct orders a b ≡ true

-- what a call with this answer adopts, newest first
abbrev pub adopts : Call → Result Reply Fault → List Adoption
adopts call (Ok reply) = adopted call reply
adopts call (Err fault) = []

-- nothing has changed but which call is prepared
abbrev pub IsSame : Story → Story → Type 0
IsSame old new = new ≡ record old { ready = new.ready }

-- a call of a verifier, for which it may be prepared first
pub record Makes (old : Story) (t : ℕ) (call : Call) (result : Result Reply Fault)
    (new : Story) : Type 0 where
  pub before : Story
  pub same : IsSame old before
  pub did : AnswersOrFails before t call result new
