-- How a call that may grow something is refused.
use Rattle.std.specs.Prelude.{◌≡◌, ◌⊎◌, Result, Err, IsOk}
use Rattle.wit_model.specs.declared.faults.Fault.{Fault}
use Rattle.wit_model.specs.declared.faults.Fault.TheVariants.{OutOfMemory}

-- the fault of the answer, or want of memory in place of an acceptance
abbrev pub IsRefusal : {X : Type 0} → Result X Fault → Fault → Type 0
IsRefusal answer fault = (answer ≡ Err fault) ⊎ ((fault ≡ OutOfMemory) × IsOk answer)
