-- A verdict as the answer of a check: the reply that tells it, or the fault.
use Rattle.std.specs.Prelude.{List, [], Result, Ok, Err, reverse}
use Rattle.wit_model.specs.declared.locks.Instance.{Instance}
use Rattle.wit_model.specs.declared.locks.TypeNo.{TypeNo}
use Rattle.wit_model.specs.declared.calls.TypedRequest.{TypedRequest}
use Rattle.wit_model.specs.declared.faults.Fault.{Fault}
use Rattle.wit_model.specs.declared.calls.Reply.{Reply}
use Rattle.wit_model.specs.declared.calls.Reply.TheVariants as reply
use Rattle.wit_model.specs.Rules.Verdict.{Basis, new_parents, orders_behind}
use Rattle.wit_check.specs.declared.answers.Verdict.{Verdict}
use Rattle.wit_check.specs.declared.answers.Verdict.TheVariants as verdict

-- the orders that a request teaches behind all these held locks (oldest first), that behind the
-- newest one first
abbrev pub new_orders : Basis → List Instance → TypedRequest → List (TypeNo × TypeNo)
new_orders g chain q = orders_behind q (new_parents g q [] (reverse chain))

-- the answer, where the orders that are new behind all held locks are these
abbrev pub answer_by : List (TypeNo × TypeNo) → Verdict → Result Reply Fault
answer_by new verdict.Pass = Ok reply.Pass
answer_by new (verdict.Adopt p c) = Ok (reply.Adopted p c)
answer_by new verdict.AdoptAll = Ok (reply.AdoptedAll new)
answer_by new (verdict.Silent held asked) = Ok (reply.Silent held asked)
answer_by new (verdict.Duplicate d) = Ok (reply.Duplicate d)
answer_by new (verdict.Reversal c) = Ok (reply.Reversal c)
answer_by new (verdict.Fault fault) = Err fault

-- the answer where an order is defined: nothing is to be said of one that is known
abbrev pub definition_of : Verdict → Result Reply Fault
definition_of verdict.Pass = Ok reply.Known
definition_of (verdict.Adopt p c) = Ok (reply.Adopted p c)
definition_of verdict.AdoptAll = Ok (reply.AdoptedAll [])
definition_of (verdict.Silent held asked) = Ok (reply.Silent held asked)
definition_of (verdict.Duplicate d) = Ok (reply.Duplicate d)
definition_of (verdict.Reversal c) = Ok (reply.Reversal c)
definition_of (verdict.Fault fault) = Err fault

-- nothing but these can be said of it
abbrev pub IsDefinition : Verdict → Type 0
IsDefinition verdict.Pass = Unit {0}
IsDefinition (verdict.Adopt p c) = Unit {0}
IsDefinition verdict.AdoptAll = ⊥
IsDefinition (verdict.Silent held asked) = ⊥
IsDefinition (verdict.Duplicate d) = ⊥
IsDefinition (verdict.Reversal c) = ⊥
IsDefinition (verdict.Fault fault) = Unit {0}
