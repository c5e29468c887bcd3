-- What is wrong with a line, in words.
use Rattle.std.specs.Prelude.{◌≡◌, ℕ, List, Result, Ok, Err, codes}
use Rattle.wit_model.specs.declared.lines.Cause.{Cause}
use Rattle.wit_model.specs.declared.lines.Cause.TheVariants as why
use Rattle.wit_merge.specs.declared.flaws.Flaw.{Flaw}
use Rattle.wit_merge.specs.declared.flaws.Flaw.TheVariants as wrong
use Rattle.wit_merge.specs.declared.flaws.MergeError.{MergeError}
use Rattle.wit_merge.specs.declared.flaws.MergeError.TheVariants.{Bad, Memory}

abbrev pub flaw_text : Flaw → List ℕ
flaw_text wrong.Long = codes "it is longer than 4,096 bytes"
flaw_text wrong.Cut = codes "it has no end"
flaw_text wrong.Order = codes "it isn't CLASS \"TYPE\" > CLASS \"TYPE\""
flaw_text wrong.Origin =
    codes "after the order stands something else than a tab, # and where it comes from"
flaw_text wrong.Byte = codes "it has a byte that is no part of a text"
flaw_text wrong.Itself = codes "a type stands before itself"
flaw_text wrong.Runs = codes "it isn't runs N"
flaw_text wrong.Count = codes "it isn't COUNT [LAST] CLASS \"TYPE\" > CLASS \"TYPE\""
flaw_text wrong.More = codes "it tells of more runs than were counted"

-- the stream's own name of a flaw
abbrev pub cause_of : Flaw → Cause
cause_of wrong.Long = why.Long
cause_of wrong.Cut = why.Cut
cause_of wrong.More = why.Limit
cause_of wrong.Order = why.Syntax
cause_of wrong.Origin = why.Syntax
cause_of wrong.Byte = why.Syntax
cause_of wrong.Itself = why.Syntax
cause_of wrong.Runs = why.Syntax
cause_of wrong.Count = why.Syntax

-- what is wrong with a line that isn't whole
abbrev pub flaw_of : Cause → Flaw
flaw_of why.Long = wrong.Long
flaw_of why.Cut = wrong.Cut
flaw_of why.Syntax = wrong.Cut
flaw_of why.Version = wrong.Cut
flaw_of why.Limit = wrong.Cut
flaw_of (why.Fault fault) = wrong.Cut

-- the value, seen by view, or the flaw is what is read, unless memory ran out
abbrev pub Gives : {X Y : Type 0} → (X → Y) → Result X MergeError → Result Y Flaw → Type 0
Gives view (Ok x) read = read ≡ Ok (view x)
Gives view (Err (Bad flaw)) read = read ≡ Err flaw
Gives view (Err Memory) read = Unit {0}
