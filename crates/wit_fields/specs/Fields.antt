-- What the reader of a field answers.
use Rattle.std.specs.Prelude.{◌≡◌, ◌≢◌, ℕ, List, Option, Some, None, Result, Ok, Err}
use Rattle.std.specs.Borrow.{Bor}
use Rattle.wit_model.specs.declared.faults.Fault.{Fault}
use Rattle.wit_model.specs.declared.faults.Fault.TheVariants.{OutOfMemory}
use Rattle.wit_model.specs.declared.locks.FileNo.{FileNo}
use Rattle.wit_model.specs.declared.lines.Cause.TheVariants.{Syntax}
use Rattle.wit_model.specs.declared.lines.Cause.TheVariants as why
use Rattle.wit_model.specs.Trace.Reading.{◌>>=◌, number_of, until}
use Rattle.wit_fields.specs.declared.errors.LineError.{LineError}
use Rattle.wit_fields.specs.declared.errors.LineError.TheVariants.{Bad, Memory}

-- `Bad` where nothing is there to read, and with no cause but `Syntax`
abbrev pub Fails : {Y : Type 0} → LineError → Option Y → Type 0
Fails Memory read = Unit {0}
Fails (Bad cause) read = (cause ≡ Syntax) × (read ≡ None)

-- the value, seen by view, is what is read, unless memory ran out
abbrev pub Gives : {X Y : Type 0} → (X → Y) → Result X LineError → Option Y → Type 0
Gives view (Ok x) read = read ≡ Some (view x)
Gives view (Err e) read = Fails e read

-- the number that stands up to the next space, and what follows it
abbrev pub leading_number : ℕ → List ℕ → Option (ℕ × List ℕ)
leading_number bound bytes =
    number_of bound (until 32 bytes).0 >>= λ number. Some (number, (until 32 bytes).1)

-- a refused call makes its line bad, unless it was for want of memory
abbrev pub RefusesLine : Fault → LineError → Type 0
RefusesLine fault Memory = fault ≡ OutOfMemory
RefusesLine fault (Bad cause) = (cause ≡ why.Fault fault) × (fault ≢ OutOfMemory)

-- a file is known, by this name and this number
abbrev pub IsKnownAs : Option (FileNo × Bor (List ℕ)) → List ℕ → FileNo → Type 0
IsKnownAs None name number = ⊥
IsKnownAs (Some known) name number = (known.1.now ≡ name) × (known.0 ≡ number)
