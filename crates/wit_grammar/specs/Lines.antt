-- What the reader of a line answers.
use Rattle.std.specs.Prelude.{◌≡◌, ◌<◌, ◌≤◌, ℕ, List, [], ◌∷◌, length, Option, Some, None}
use Rattle.std.specs.Borrow.{Bor}
use Rattle.wit_model.specs.declared.lines.Line.{Line}
use Rattle.wit_model.specs.declared.lines.Line.TheVariants.{Header, Profile, Order, Bless, OnLock}
use Rattle.wit_model.specs.declared.lines.LockLine.{LockLine}
use Rattle.wit_model.specs.declared.lines.LockLine.TheVariants.{Check, Try, Unlock, Plain, Step}
use Rattle.wit_model.specs.declared.lines.Keyword.{Keyword}
use Rattle.wit_model.specs.declared.lines.Keyword.TheVariants as keyword
use Rattle.wit_model.specs.declared.lines.Cause.{Cause}
use Rattle.wit_model.specs.declared.lines.Cause.TheVariants.{Long, Syntax, Cut, Version, Limit}
use Rattle.wit_model.specs.declared.lines.Cause.TheVariants as why
use Rattle.wit_model.specs.Trace.Reading.{named, fields_of}
use Rattle.wit_model.specs.Trace.Spelling.{Spells, IsSpellable, keyword_text, spelling}
use Rattle.wit_fields.specs.declared.errors.LineError.{LineError}
use Rattle.wit_fields.specs.declared.errors.LineError.TheVariants.{Bad, Memory}
use Rattle.wit_grammar.specs.declared.parse.TheConstants.{LONGEST}

-- a value that was found, seen by view, is what is read
abbrev pub GivesIfFound : {X Y : Type 0} → (X → Y) → Option X → Option Y → Type 0
GivesIfFound view (Some x) read = read ≡ Some (view x)
GivesIfFound view None read = Unit {0}

-- the keyword of the header, where the word is that
abbrev pub header_keyword : List ℕ → Option Keyword
header_keyword = named keyword_text (keyword.Header ∷ [])

-- a line on a lock by itself, its file named by text
abbrev pub as_line : LockLine (Bor (List ℕ)) → Line
as_line (Check seat lock mode ops file line) = OnLock (Check seat lock mode ops file.now line)
as_line (Try seat lock mode file line) = OnLock (Try seat lock mode file.now line)
as_line (Unlock seat lock mode) = OnLock (Unlock seat lock mode)
as_line (Plain verb seat lock) = OnLock (Plain verb seat lock)
as_line (Step seat lock step) = OnLock (Step seat lock step)

-- what a line that begins so spells
abbrev pub Begins : Option (Keyword × Bor (List ℕ)) → Option Line → Type 0
Begins (Some (keyword, rest)) read = read ≡ fields_of keyword rest.now
Begins None read = read ≡ None

-- the bytes spell no line
abbrev pub SpellsNone : List ℕ → Type 0
SpellsNone bytes = (line : Line) → Spells bytes line → ⊥

-- why bytes are no line
abbrev pub IsWhyBad : List ℕ → Cause → Type 0
IsWhyBad bytes Long = LONGEST < length bytes
IsWhyBad bytes Syntax = (length bytes ≤ LONGEST) × SpellsNone bytes
IsWhyBad bytes Cut = ⊥
IsWhyBad bytes Version = ⊥
IsWhyBad bytes Limit = ⊥
IsWhyBad bytes (why.Fault f) = ⊥

abbrev pub IsWhy : List ℕ → LineError → Type 0
IsWhy bytes Memory = Unit {0}
IsWhy bytes (Bad cause) = IsWhyBad bytes cause

-- a line that stands before the calls
abbrev pub IsPrelude : Line → Type 0
IsPrelude (Header version seats types locks chunks) = Unit {0}
IsPrelude Profile = Unit {0}
IsPrelude (Order list) = Unit {0}
IsPrelude (Bless first second) = Unit {0}
IsPrelude _ = ⊥

-- the line has a spelling, of at most 4,096 bytes
abbrev pub IsSpelled : Line → Type 0
IsSpelled line = IsSpellable line × (length (spelling line) ≤ LONGEST)
