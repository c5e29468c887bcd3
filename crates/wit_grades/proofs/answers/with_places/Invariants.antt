use Rattle.std.proofs.Common.{◌≡◌, ◌++◌, length}
use Rattle.std.specs.Prelude.{string_bytes}
use Rattle.wit_grades.specs.Answers.{places_text}
use Rattle.wit_grades.proofs.answers.with_places.Given as goal

-- the text, and that of the rest, are the line
abbrev pub invariant-loop-place : goal.invariant-loop-place
invariant-loop-place l =
    string_bytes l.text ++ places_text l.rest ≡ l.words ++ places_text l.places

abbrev pub decreases-loop-place : goal.decreases-loop-place
decreases-loop-place l = length l.rest
