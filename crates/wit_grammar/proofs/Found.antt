-- What reading by the definition says of spellings.
use Rattle.std.proofs.Common.{◌≡◌, ℕ, ◌≤◌, List, length, Option, Some, None, Result, Ok, Err, sym}
use Rattle.std.proofs.Common.{subst, ◌∙◌}
use Rattle.std.specs.Prelude.{IfOk, IfErr}
use Rattle.wit_model.specs.declared.lines.Line.{Line}
use Rattle.wit_model.specs.declared.lines.Cause.TheVariants.{Long, Syntax, Cut, Version, Limit}
use Rattle.wit_model.specs.declared.lines.Cause.TheVariants.{Fault}
use Rattle.wit_model.specs.Trace.Spelling.{Spells}
use Rattle.wit_model.specs.Trace.Reading.{line_of}
use Rattle.wit_model.proofs.Spelling.Laws.{line_takes, spelled_again}
use Rattle.wit_fields.specs.declared.errors.LineError.{LineError}
use Rattle.wit_fields.specs.declared.errors.LineError.TheVariants.{Bad, Memory}
use Rattle.wit_fields.specs.Fields.{Gives}
use Rattle.wit_grammar.specs.Lines.{IsWhy}
use Rattle.wit_grammar.specs.declared.parse.TheConstants.{LONGEST}

abbrev Reads : List ℕ → Result Line LineError → Type 0
Reads bytes r = Gives (λ l. l) r (line_of bytes)

pub found : (bytes : List ℕ) (r : Result Line LineError) → Reads bytes r → length bytes ≤ LONGEST
    → IfOk r (λ line. Spells bytes line × (length bytes ≤ LONGEST))
found bytes (Ok line) given small = (line_takes bytes line given, small)
found bytes (Err e) given small = tt

pub only : (bytes : List ℕ) (r : Result Line LineError) (line : Line) → Reads bytes r
    → Spells bytes line → Gives (λ l. l) r (Some line)
only bytes r line given spells =
    subst (λ (o : Option Line). Gives (λ l. l) r o) (spelled_again bytes line spells) given

pub why : (bytes : List ℕ) (r : Result Line LineError) → Reads bytes r → length bytes ≤ LONGEST
    → IfErr r (IsWhy bytes)
why bytes (Ok line) given small = tt
why bytes (Err Memory) given small = tt
why bytes (Err (Bad Syntax)) given small = (
  small,
  λ line spells. let e : None ≡ Some line = sym given.1
      ∙ spelled_again bytes line spells in absurd cc,
)
why bytes (Err (Bad Long)) given small = let e = given.0 in absurd cc
why bytes (Err (Bad Cut)) given small = let e = given.0 in absurd cc
why bytes (Err (Bad Version)) given small = let e = given.0 in absurd cc
why bytes (Err (Bad Limit)) given small = let e = given.0 in absurd cc
why bytes (Err (Bad (Fault f))) given small = let e = given.0 in absurd cc
