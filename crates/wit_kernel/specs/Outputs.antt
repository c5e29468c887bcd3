-- What is written of a tracer's lines: the trace of the events of what is gathered of them, and a bad line where
-- one ended the reading.
use Rattle.std.specs.Prelude.{ℕ, ◌+◌, Bool, nat_lt, List, [], ◌∷◌, ◌++◌, Option, None, Some, length}
use Rattle.std.specs.Prelude.{if◌then◌else◌}
use Rattle.wit_model.specs.declared.lines.Cause.{Cause}
use Rattle.wit_model.specs.declared.lines.Cause.TheVariants.{Long}
use Rattle.wit_model.specs.Trace.Output.{bad_text}
use Rattle.wit_grammar.specs.declared.parse.TheConstants.{LONGEST}
use Rattle.wit_stream.specs.declared.summary.Summary.{Summary}
use Rattle.wit_stream.specs.Text.{text_of}
use Rattle.wit_gathered.specs.declared.gathering.Settings.{Settings}
use Rattle.wit_gathered.specs.Gathering.{Gathered, nothing_gathered}
use Rattle.wit_gathered.specs.Reading.{with_line, with_mutex_line}
use Rattle.wit_import.specs.Laws.{text_behind}
use Rattle.wit_import.specs.Outputs.{IsOutput, Output, header, nothing_seen}
use Rattle.wit_kernel.specs.declared.importing.Gatherer.{Gatherer}
use Rattle.wit_kernel.specs.declared.importing.Tracer.{Tracer}
use Rattle.wit_kernel.specs.declared.importing.Tracer.TheVariants.{Ftrace, Lttng}
use Rattle.wit_kernel.specs.Acquisitions.{events_of}
use Rattle.wit_gathered.specs.Gathering.{gathered}

abbrev pub trace_text : Gathered → List ℕ
trace_text g = header ++ text_behind nothing_seen (events_of g)

abbrev pub bad_line : Option (ℕ × Cause) → List ℕ
bad_line None = []
bad_line (Some bad) = bad_text bad.0 bad.1

abbrev pub whole : Gathered → Option (ℕ × Cause) → Output
whole g bad = record { text = trace_text g ++ bad_line bad; bad = bad }

abbrev pub settings : Bool → Bool → Settings
settings interrupts readers = record { interrupts = interrupts; readers = readers }

-- ---- lines

abbrev pub gathering : Tracer → Gathered → List ℕ → Gathered
gathering Ftrace g line = with_line g line
gathering Lttng g line = with_mutex_line g line

-- a last line that the input ends in is passed over; one that is too long ends the reading
abbrev pub at_end : Gathered → ℕ → List ℕ → Output
at_end g n tail = whole g (if nat_lt LONGEST (length tail) then Some (n, Long) else None)

-- from here on, where the next line has number n, these whole lines and this unfinished one are to come
abbrev pub output_from : Tracer → Gathered → ℕ → List (List ℕ) → List ℕ → Output
output_from source g n [] tail = at_end g n tail
output_from source g n (line ∷ lines) tail =
    if nat_lt LONGEST (length line) then whole g (Some (n, Long))
    else output_from source (gathering source g line) (n + 1) lines tail

abbrev pub allowed : Gatherer → ℕ → List (List ℕ) → List ℕ → List ℕ → Summary → Type 0
allowed m n lines tail text summary =
    IsOutput (output_from m.source (gathered m.gathering) n lines tail) text summary

-- the input fixes the text
abbrev pub Imports : Tracer → Settings → List ℕ → List ℕ → Summary → Type 0
Imports source settings input text summary =
    IsOutput
    (output_from source (nothing_gathered settings) 1 (text_of input).lines (text_of input).tail)
    text summary
