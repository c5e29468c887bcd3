-- When a text may fail to be made.
use Rattle.std.specs.Prelude.{ℕ, ◌≡◌, ◌<◌, List, length}
use Rattle.wit_model.specs.declared.faults.Fault.{Fault}
use Rattle.wit_model.specs.declared.faults.Fault.TheVariants.{OutOfMemory}

-- want of memory, in place of a text that says something
abbrev pub WantsMemory : List ℕ → Fault → Type 0
WantsMemory text fault = (fault ≡ OutOfMemory) × (0 < length text)
