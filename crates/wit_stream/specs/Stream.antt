-- What is read and written by a stream of lines.
use Rattle.std.specs.Prelude.{◌≡◌, Bool, true, false, ℕ, ◌+◌, ◌-◌, ◌^◌, ◌<◌, ◌≤◌, ◌⊎◌, List, []}
use Rattle.std.specs.Prelude.{◌∷◌, ◌++◌, length, take, Option, None, Some}
use Rattle.std.specs.Io.KnownBytes.{Appends, Consumes}
use Rattle.wit_stream.specs.Text.{text_of, HasNoFeed, IsWholeLines, IsLine, feeds}
use Rattle.wit_stream.specs.declared.machine.Step.{Step}
use Rattle.wit_stream.specs.declared.ports.Failures.{Failures}
use Rattle.wit_stream.specs.declared.machine.Step.TheVariants.{Goes, Ends}
use Rattle.wit_stream.specs.declared.summary.Summary.{Summary}
use Rattle.wit_grammar.specs.declared.parse.TheConstants.{LONGEST}

-- a beginning of the bytes is appended
abbrev pub AppendsFront : Option (List ℕ) → Option (List ℕ) → List ℕ → Type 0
AppendsFront old new bytes = (n : ℕ) × Appends old new (take n bytes)

-- a beginning of the bytes is appended, and the rest is kept
pub record AppendsAndKeeps (old new : Option (List ℕ)) (bytes kept : List ℕ) : Type 0 where
  pub sent : List ℕ
  pub all : bytes ≡ sent ++ kept
  pub written : Appends old new sent

-- the input is what the reader has left, where that is known
abbrev pub IsInput : Option (List ℕ) → List ℕ → Type 0
IsInput None input = Unit
IsInput (Some bytes) input = bytes ≡ input

-- the texts and summaries that a machine allows for the bytes, of which the first line has this
-- number
abbrev pub OutputFrom : {M : Type 0} → (M → ℕ → List (List ℕ) → List ℕ → List ℕ → Summary → Type 0)
    → M → ℕ → List ℕ → List ℕ → Summary → Type 0
OutputFrom allows m number input text summary =
    allows m number (text_of input).lines (text_of input).tail text summary

-- the reading goes on behind these whole lines, whose texts are this text: whatever comes behind
-- them, what is an output of that from this place on is, behind the text, an output of all
pub record ReadingGoesOn {P : Type 0} (output : P → ℕ → List ℕ → List ℕ → Summary
    → Type 0) (start : P) (lines text : List ℕ) : Type 0 where
  pub at : P
  pub on : (more rest : List ℕ) (summary : Summary) → output at (feeds lines + 1) more rest summary
      → output start 1 (lines ++ more) (text ++ rest) summary

-- a last text and summary, for what was taken and anything behind it: that was all, or they are
-- these whatever comes
abbrev pub IsLastText : Type 0 → (List ℕ → Type 0) → Type 0
IsLastText all output = (all × output []) ⊎ ((more : List ℕ) → output more)

-- a look took bytes of a line, which goes on
pub record TakesPart (old new : Option (List ℕ)) (line line' : List ℕ) : Type 0 where
  pub part : List ℕ
  pub taken : Consumes old new part
  pub some : 0 < length part
  pub plain : HasNoFeed part
  pub begun : line' ≡ line ++ part
  pub short : length line' ≤ LONGEST

-- a look took the rest of a line, of which this text is told
pub record TakesLine {M : Type 0} (output : M → ℕ → List ℕ → List ℕ → Summary
    → Type 0) (before after : M) (number : ℕ) (old new : Option (List ℕ))
    (line line' text : List ℕ) : Type 0 where
  pub rest : List ℕ
  pub taken : Consumes old new (rest ++ 10 ∷ [])
  pub plain : HasNoFeed rest
  pub none : line' ≡ []
  pub told : (input more : List ℕ) (summary : Summary)
      → output after (number + 1) input more summary
      → output before number ((line ++ rest) ++ 10 ∷ input) (text ++ more) summary

-- a look took what is left of the last line, or its beginning where it is too long
pub record TakesLast {M : Type 0} (output : M → ℕ → List ℕ → List ℕ → Summary → Type 0) (before : M)
    (number : ℕ) (old new : Option (List ℕ)) (line text : List ℕ) (summary : Summary) : Type 0 where
  pub rest : List ℕ
  pub taken : Consumes old new rest
  pub one : IsLine (line ++ rest)
  pub last : IsLastText (IsInput old rest)
      (λ more. output before number ((line ++ rest) ++ more) text summary)

-- what a look took behind the line begun, what is told of it, and what follows
abbrev pub Advances : {M : Type 0} → (M → ℕ → List ℕ → List ℕ → Summary → Type 0) → M → M → ℕ
    → Option (List ℕ) → Option (List ℕ) → List ℕ → List ℕ → List ℕ → Option Step → Type 0
Advances output before after number old new line line' text None =
    TakesPart old new line line' × (after ≡ before) × (text ≡ [])
Advances output before after number old new line line' text (Some Goes) =
    TakesLine output before after number old new line line' text
Advances output before after number old new line line' text (Some (Ends summary)) =
    TakesLast output before number old new line text summary

-- a text was written that is an output of the input, with the summary
pub record WritesOutput (output : List ℕ → List ℕ → Summary → Type 0)
    (read written_old written_new : Option (List ℕ)) (summary : Summary) : Type 0 where
  pub input : List ℕ
  pub text : List ℕ
  pub is_input : IsInput read input
  pub is_output : output input text summary
  pub written : Appends written_old written_new text

-- a beginning was written of a text that is an output of the input, with some summary
pub record WritesFront (output : List ℕ → List ℕ → Summary → Type 0)
    (read written_old written_new : Option (List ℕ)) : Type 0 where
  pub input : List ℕ
  pub text : List ℕ
  pub summary : Summary
  pub is_input : IsInput read input
  pub is_output : output input text summary
  pub written : AppendsFront written_old written_new text

-- what was taken is whole lines behind which the reading goes on, and the line that ended it, of
-- one that is too long its beginning; what was written is an output whatever may be left
pub record ReadsToEnd {P : Type 0} (output : P → ℕ → List ℕ → List ℕ → Summary → Type 0) (start : P)
    (read_old read_new written_old written_new : Option (List ℕ)) (summary : Summary) : Type 0 where
  pub lines : List ℕ
  pub last : List ℕ
  pub told : List ℕ
  pub text : List ℕ
  pub whole : IsWholeLines lines
  pub goes : ReadingGoesOn output start lines told
  pub one : IsLine last
  pub read : Consumes read_old read_new (lines ++ last)
  pub is_last : IsLastText (IsInput read_old (lines ++ last))
      (λ more. output start 1 (lines ++ (last ++ more)) text summary)
  pub written : Appends written_old written_new text

-- what was taken is whole lines and a line begun, and what was written is the text of these lines,
-- no less
pub record WritesLines {P : Type 0} (output : P → ℕ → List ℕ → List ℕ → Summary → Type 0)
    (start : P) (read_old read_new written_old written_new : Option (List ℕ)) : Type 0 where
  pub lines : List ℕ
  pub begun : List ℕ
  pub text : List ℕ
  pub whole : IsWholeLines lines
  pub plain : HasNoFeed begun
  pub goes : ReadingGoesOn output start lines text
  pub read : Consumes read_old read_new (lines ++ begun)
  pub written : Appends written_old written_new text

-- the looks and the lines read, which are never more, have come to the greatest number of a u64
pub record IsSpent (read_old read_new : Option (List ℕ)) (looks : ℕ) : Type 0 where
  pub came : List ℕ
  pub read : Consumes read_old read_new came
  pub lines : feeds came ≤ looks
  pub spent : 2 ^ 64 - 1 ≤ looks + feeds came

-- no failure was seen, nor the reader looked at
abbrev pub no_failure : Failures
no_failure = record { read = false; write = false; looks = 0; waits = true }

-- the evidence that the reader failed
abbrev pub has_read_failed : Failures → Bool
has_read_failed f = f.read

-- the evidence that the writer failed
abbrev pub has_write_failed : Failures → Bool
has_write_failed f = f.write
