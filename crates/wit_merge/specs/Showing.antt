-- What a machine that merges may write.
use Rattle.std.specs.Prelude.{ℕ, List}
use Rattle.wit_stream.specs.declared.summary.Summary.{Summary}
use Rattle.wit_merge.specs.declared.machine.Showing.{Showing}
use Rattle.wit_merge.specs.declared.machine.Shown.{Shown}
use Rattle.wit_merge.specs.Existing.{some_shown}
use Rattle.wit_merge.specs.Merging.{merged}
use Rattle.wit_merge.specs.Outputs.{ShowsLines}

abbrev pub allowed : Shown → Showing → ℕ → List (List ℕ) → List ℕ → List ℕ → Summary → Type 0
allowed by m n lines tail text summary = ShowsLines by (merged m.merging) n lines tail text summary

-- something may always be written
abbrev pub some_allowed : (by : Shown) (m : Showing) (n : ℕ) (lines : List (List ℕ)) (tail : List ℕ)
    → (text : List ℕ) × ((summary : Summary) × allowed by m n lines tail text summary)
some_allowed by m n lines tail = some_shown by lines (merged m.merging) n tail
