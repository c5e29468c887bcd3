-- The answers of calls as replies.
use Rattle.std.specs.Prelude.{ℕ, ◌≡◌, List, Option, Result, Ok, Err}
use Rattle.wit_model.specs.declared.faults.Fault.{Fault}
use Rattle.wit_model.specs.declared.flags.LockFlags.{LockFlags}
use Rattle.wit_model.specs.declared.locks.Class.{Class}
use Rattle.wit_model.specs.declared.locks.LockNo.{LockNo}
use Rattle.wit_model.specs.declared.calls.NewLock.{NewLock}
use Rattle.wit_model.specs.declared.calls.Reply.{Reply}
use Rattle.wit_model.specs.declared.calls.Reply.TheVariants.{Made}

abbrev pub new_lock : List ℕ → Option (List ℕ) → Class → LockFlags → NewLock
new_lock name type_name class flags =
    record { class = class; flags = flags; name = name; type_name = type_name }

abbrev pub made_reply : Result LockNo Fault → Result Reply Fault
made_reply (Ok l) = Ok (Made l)
made_reply (Err f) = Err f

-- whichever the rest is, these faults stand before it, or none of them does
abbrev pub Refuses : (Result Reply Fault → Result Reply Fault) → Fault → Type 0
Refuses before fault = (rest : Result Reply Fault) → before rest ≡ Err fault

abbrev pub Admits : (Result Reply Fault → Result Reply Fault) → Type 0
Admits before = (rest : Result Reply Fault) → before rest ≡ rest
