-- What a merging in progress may write, and what becomes of a line.
use Rattle.std.specs.Prelude.{ℕ, List, Result}
use Rattle.wit_stream.specs.declared.machine.Step.{Step}
use Rattle.wit_stream.specs.declared.machine.Step.TheVariants.{Goes, Ends}
use Rattle.wit_merge.specs.declared.flaws.Flaw.{Flaw}
use Rattle.wit_merge.specs.declared.flaws.MergeError.{MergeError}
use Rattle.wit_merge.specs.declared.merging.Merging.{Merging}
use Rattle.wit_merge.specs.Flaws.{Gives}
use Rattle.wit_merge.specs.Lines.{Merged}
use Rattle.wit_merge.specs.Outputs.{Refuses}
use Rattle.wit_merge.specs.Rows.{rows_of}

abbrev pub merged : Merging → Merged
merged m = record { rows = rows_of m.rows.entries; standing = m.standing }

-- a line was taken, or it is bad
abbrev pub Enters : Result Merged Flaw → Merged → Result Unit MergeError → Type 0
Enters read new result = Gives (λ x. new) result read

-- the reading ends at this bad line
abbrev pub RefusesAt : ℕ → Flaw → List ℕ → Step → Type 0
RefusesAt n flaw text Goes = ⊥
RefusesAt n flaw text (Ends summary) = Refuses n flaw text summary
