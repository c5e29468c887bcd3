-- Want of memory may stand in place of any start.
use Rattle.std.proofs.Common.{ℕ, zero, suc, Option, None, Some, refl, inl, inr, arith}
use Rattle.wit_model.specs.declared.faults.Fault.{Fault}
use Rattle.wit_model.specs.declared.faults.Fault.TheVariants.{OutOfMemory}
use Rattle.wit_model.specs.Rules.Start.{start_fault, IsAcceptedTo, IsRefused}
use Rattle.wit_model.specs.Rules.State.{Start}

accepted_to_none : (fault : Option (ℕ × Fault)) → IsAcceptedTo 0 fault
accepted_to_none None = tt
accepted_to_none (Some (zero, fault)) = inr refl
accepted_to_none (Some (suc n, fault)) = inl (omega arith)

pub memory_refuses : (start : Start) → IsRefused start 0 OutOfMemory
memory_refuses start = inr (refl, (omega arith, accepted_to_none (start_fault start)))
