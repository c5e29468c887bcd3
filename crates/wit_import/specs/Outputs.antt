-- What is written of lines, and how the reading ends.
use Rattle.std.specs.Prelude.{◌≡◌, ℕ, ◌+◌, Bool, true, false, nat_lt, List, [], ◌∷◌, ◌++◌, length, remove}
use Rattle.std.specs.Prelude.{Option, Some, None, refl, codes, if◌then◌else◌}
use Rattle.wit_model.specs.declared.lines.Cause.{Cause}
use Rattle.wit_model.specs.declared.lines.Cause.TheVariants as why
use Rattle.wit_model.specs.Trace.Output.{bad_text}
use Rattle.wit_grammar.specs.declared.parse.TheConstants.{LONGEST}
use Rattle.wit_stream.specs.declared.summary.Summary.{Summary}
use Rattle.wit_stream.specs.Text.{text_of}
use Rattle.wit_import.specs.declared.events.Acquisition.{Acquisition}
use Rattle.wit_import.specs.declared.events.Event.{Event}
use Rattle.wit_import.specs.declared.events.Event.TheVariants.{Asks, Gets, Tries, Releases, Twice, Loses}
use Rattle.wit_import.specs.declared.held.Holding.{Holding}
use Rattle.wit_model.specs.declared.locks.Class.TheVariants.{Sx}
use Rattle.wit_import.specs.declared.events.Release.{Release}
use Rattle.wit_import.specs.Blocks.{Told, request_text, told_after, told_of_twice, twice_text}
use Rattle.wit_import.specs.Held.{place_released, with_freed, with_newest}
use Rattle.wit_import.specs.Names.{has_name}
use Rattle.wit_import.specs.Reading.{plain_line}

-- ---- what was read so far: whether the trace was begun, what is held, which locks were released, and
-- what was written

pub record Seen : Type 0 where
  pub begun : Bool
  pub held : List Holding
  pub freed : List (List ℕ)
  pub told : Told

abbrev pub nothing_seen : Seen
nothing_seen = record {
  begun = false;
  held = [];
  freed = [];
  told = record { types = []; pairs = [] };
}

-- ---- the lines that a trace begins with

abbrev pub header : List ℕ
header =
    codes "witness-trace 1 seats 1 types 1023 locks 2048 chunks 1024" ++ 10 ∷ (codes "profile all"
    ++ 10 ∷ [])

abbrev pub opening : Bool → List ℕ
opening true = []
opening false = header

-- ---- an event

abbrev pub holding : Acquisition → Bool → Holding
holding a tried = record { acquisition = a; tried = tried }

abbrev pub after_asking : Seen → Acquisition → Seen
after_asking s a = record s { told = told_after s.told s.held a }

abbrev pub with_holding : Seen → Holding → Seen
with_holding s h = record s { held = with_newest s.held h }

-- a lock of this type was released that nobody holds
abbrev pub after_twice : Seen → List ℕ → Seen
after_twice s name = record s { told = told_of_twice s.told name }

-- where nobody holds a lock, that is told if it was released before and has a name
abbrev pub with_unheld : Seen → Option (List ℕ) → Seen
with_unheld s None = s
with_unheld s (Some name) = after_twice s name

abbrev pub unheld_text : Seen → Option (List ℕ) → List ℕ
unheld_text s None = []
unheld_text s (Some name) = twice_text s.told Sx name

abbrev pub after_release : Seen → Release → Option ℕ → Seen
after_release s r (Some n) =
    record s { held = remove s.held n; freed = with_freed s.freed r.lock }
after_release s r None = if has_name s.freed r.lock then with_unheld s r.name else s

abbrev pub release_text : Seen → Release → Option ℕ → List ℕ
release_text s r (Some n) = []
release_text s r None = if has_name s.freed r.lock then unheld_text s r.name else []

abbrev pub seen_after : Seen → Event → Seen
seen_after s (Asks a) = after_asking s a
seen_after s (Gets a) = with_holding (after_asking s a) (holding a false)
seen_after s (Tries a) = with_holding s (holding a true)
seen_after s (Releases r) = after_release s r (place_released s.held r)
seen_after s (Twice t) = after_twice s t.name
seen_after s Loses = record s { held = []; freed = [] }

abbrev pub text_of_event : Seen → Event → List ℕ
text_of_event s (Asks a) = request_text s.told s.held a
text_of_event s (Gets a) = request_text s.told s.held a
text_of_event s (Tries a) = []
text_of_event s (Releases r) = release_text s r (place_released s.held r)
text_of_event s (Twice t) = twice_text s.told t.class t.name
text_of_event s Loses = []

-- ---- a line, of which this is told

abbrev pub seen_by : Seen → Option Event → Seen
seen_by s None = record s { begun = true }
seen_by s (Some event) = record (seen_after s event) { begun = true }

abbrev pub text_by : Seen → Option Event → List ℕ
text_by s None = opening s.begun
text_by s (Some event) = opening s.begun ++ text_of_event s event

-- ---- all lines

pub record Output : Type 0 where
  pub text : List ℕ
  pub bad : Option (ℕ × Cause)

-- the reading ends at the bad line with this number
abbrev pub refused : Bool → ℕ → Cause → Output
refused begun n cause =
    record { text = opening begun ++ bad_text n cause; bad = Some (n, cause) }

-- after the last whole line
abbrev pub at_end : Seen → ℕ → List ℕ → Output
at_end s n [] = record { text = opening s.begun; bad = None }
at_end s n (b ∷ tail) =
    refused s.begun n (if nat_lt LONGEST (length (b ∷ tail)) then why.Long else why.Cut)

abbrev pub behind : List ℕ → Output → Output
behind text out = record { text = text ++ out.text; bad = out.bad }

-- at a line of which this is read
abbrev pub after_line : Seen → ℕ → Option (Option Event) → (Seen → Output) → Output
after_line s n None next = refused s.begun n why.Syntax
after_line s n (Some event) next = behind (text_by s event) (next (seen_by s event))

-- from here on, where the next line has number n, these whole lines and this unfinished one are to
-- come
abbrev pub output_from : Seen → ℕ → List (List ℕ) → List ℕ → Output
output_from s n [] tail = at_end s n tail
output_from s n (line ∷ lines) tail =
    if nat_lt LONGEST (length line) then refused s.begun n why.Long
    else after_line s n (plain_line line) (λ next. output_from next (n + 1) lines tail)

-- ---- what is written and summed up

abbrev pub ended : Option (ℕ × Cause) → Summary
ended bad = record { calls = 0; reports = 0; circle = false; bad = bad }

pub record IsOutput (out : Output) (text : List ℕ) (summary : Summary) : Type 0 where
  pub written : text ≡ out.text
  pub summed : summary ≡ ended out.bad

-- from here on, where the first line of the bytes has this number
abbrev pub ImportsFrom : Seen → ℕ → List ℕ → List ℕ → Summary → Type 0
ImportsFrom s n input text summary =
    IsOutput (output_from s n (text_of input).lines (text_of input).tail) text summary

abbrev pub Imports : List ℕ → List ℕ → Summary → Type 0
Imports = ImportsFrom nothing_seen 1

abbrev pub some_output : (out : Output)
    → (text : List ℕ) × ((summary : Summary) × IsOutput out text summary)
some_output out = (out.text, (ended out.bad, record { written = refl; summed = refl }))
