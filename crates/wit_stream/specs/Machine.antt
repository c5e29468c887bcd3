-- What a machine that reads lines promises of each call.
use Rattle.std.specs.Prelude.{◌≡◌, ℕ, ◌+◌, ◌<◌, ◌≤◌, List, [], ◌∷◌, ◌++◌, length}
use Rattle.std.specs.Io.{StartsWith}
use Rattle.wit_model.specs.declared.lines.Cause.{Cause}
use Rattle.wit_model.specs.declared.lines.Cause.TheVariants.{Long, Cut, Syntax, Version, Limit}
use Rattle.wit_model.specs.declared.lines.Cause.TheVariants.{Fault}
use Rattle.wit_stream.specs.declared.summary.Summary.{Summary}
use Rattle.wit_stream.specs.declared.machine.Step.{Step}
use Rattle.wit_stream.specs.declared.machine.Step.TheVariants.{Goes, Ends}
use Rattle.wit_grammar.specs.declared.parse.TheConstants.{LONGEST}

-- the text of the line, and then whatever the new machine may write; or the last text, whatever
-- follows
abbrev pub Follows : {M : Type 0} → (M → ℕ → List (List ℕ) → List ℕ → List ℕ → Summary → Type 0) → M
    → M → ℕ → List ℕ → List ℕ → Step → Type 0
Follows allows old new number line text Goes =
    (lines : List (List ℕ)) (tail more : List ℕ) (summary : Summary)
    → allows new (number + 1) lines tail more summary
    → allows old number (line ∷ lines) tail (text ++ more) summary
Follows allows old new number line text (Ends summary) = (lines : List (List ℕ)) (tail : List ℕ)
    → allows old number (line ∷ lines) tail text summary

-- what is still to come begins with this line
abbrev pub first_of : List (List ℕ) → List ℕ → List ℕ
first_of [] tail = tail
first_of (line ∷ lines) tail = line

-- what is still to come begins with a line that is too long, which begins with these bytes; or
-- these bytes are all
abbrev pub BreaksAt : Cause → List ℕ → List (List ℕ) → List ℕ → Type 0
BreaksAt Long bytes lines tail = (LONGEST < length bytes) × StartsWith (first_of lines tail) bytes
BreaksAt Cut bytes lines tail =
    (0 < length bytes) × (length bytes ≤ LONGEST) × (lines ≡ []) × (tail ≡ bytes)
BreaksAt Syntax bytes lines tail = ⊥
BreaksAt Version bytes lines tail = ⊥
BreaksAt Limit bytes lines tail = ⊥
BreaksAt (Fault fault) bytes lines tail = ⊥
