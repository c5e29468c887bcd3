-- What becomes of an order that a call defines.
use Rattle.std.specs.Prelude.{List, [], ◌∷◌, ◌++◌}
use Rattle.wit_model.specs.declared.locks.Origin.TheVariants.{Defined}
use Rattle.wit_model.specs.declared.calls.Adoption.{Adoption}
use Rattle.wit_model.specs.declared.calls.Reply.{Reply}
use Rattle.wit_model.specs.declared.calls.Reply.TheVariants as reply
use Rattle.wit_model.specs.Rules.State.{Known}

-- the orders that a definition answered so adds
abbrev pub added : Reply → List Adoption
added (reply.Adopted p c) = record { parent = p; child = c; origin = Defined } ∷ []
added _ = []

-- what is known then
abbrev pub with_defined : Known → Reply → Known
with_defined k reply = record k { orders = added reply ++ k.orders }

-- the replies that a definition gets where it is logged
abbrev pub IsDefined : Reply → Type 0
IsDefined reply.Known = Unit {0}
IsDefined (reply.Adopted p c) = Unit {0}
IsDefined _ = ⊥
