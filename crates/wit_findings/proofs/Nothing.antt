-- What is written where nothing was read, or up to a failure.
use Rattle.std.proofs.Common.{◌≡◌, ℕ, List, [], Option, Some, None, Result, Ok, Err, OnErr, subst, refl}
use Rattle.std.proofs.KnownBytes.{Appends-nil}
use Rattle.std.specs.Global.{Vec}
use Rattle.wit_stream.specs.Stream.{IsInput, OutputFrom, WritesFront}
use Rattle.wit_stream.specs.Text.{text_of}
use Rattle.wit_findings.specs.Existing.{some_findings}
use Rattle.wit_findings.specs.declared.processes.Processes.{Processes}
use Rattle.wit_findings.specs.Findings.{Finds, FindsFrom, allowed}
use Rattle.wit_findings.specs.Runs.{known, nothing_told}

input-of : (read : Option (List ℕ)) → (input : List ℕ) × IsInput read input
input-of None = ([], tt)
input-of (Some bytes) = (bytes, refl)

-- nothing was written
nothing-written : {X : Type 0} (vec : Vec X) (read written : Option (List ℕ))
    → WritesFront Finds read written written
nothing-written vec read written =
    let input = input-of read in
    let some = some_findings vec nothing_told 1 (text_of input.0).lines (text_of input.0).tail in
    record {
      input = input.0;
      text = some.0;
      summary = some.1.0;
      is_input = input.1;
      is_output = some.1.1;
      written = (0, Appends-nil written);
    }

-- where the machine knows nothing yet, what it writes up to a failure is a front of findings
pub run-front : {X E : Type 0} (m : Processes) (is : known m ≡ nothing_told) (answer : Result X E)
    (read before after : Option (List ℕ))
    → OnErr answer (WritesFront (OutputFrom allowed m 1) read before after)
    → OnErr answer (WritesFront Finds read before after)
run-front m is (Ok x) read before after h = tt
run-front m is (Err e) read before after h =
    subst (λ t. WritesFront (FindsFrom t 1) read before after) is h

pub nothing-where-refused : {X E Y : Type 0} (vec : Vec Y) (answer : Result X E)
    (read written : Option (List ℕ)) → OnErr answer (WritesFront Finds read written written)
nothing-where-refused vec (Ok x) read written = tt
nothing-where-refused vec (Err e) read written = nothing-written vec read written
