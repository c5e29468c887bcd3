-- What becomes of what is gathered by a line.
use Rattle.std.specs.Prelude.{ℕ, List, Option, Some, None}
use Rattle.wit_traced.specs.Lines.{told_of}
use Rattle.wit_traced.specs.Lttng.{mutex_told}
use Rattle.wit_traced.specs.SymbolLines.{symbol_of}
use Rattle.wit_traced.specs.Tellings.{Telling}
use Rattle.wit_gathered.specs.Gathering.{Gathered, with_telling}
use Rattle.wit_gathered.specs.Types.{with_symbol}

abbrev pub symbol_read : Gathered → Option (Option (ℕ × List ℕ)) → Gathered
symbol_read g None = g
symbol_read g (Some None) = g
symbol_read g (Some (Some s)) = record g { known = with_symbol g.known s.0 s.1 }

abbrev pub line_read : Gathered → List ℕ → Option Telling → Gathered
line_read g line None = symbol_read g (symbol_of line)
line_read g line (Some told) = with_telling g told

-- a line of ftrace
abbrev pub with_line : Gathered → List ℕ → Gathered
with_line g line = line_read g line (told_of line)

abbrev pub mutex_line_read : Gathered → Option Telling → Gathered
mutex_line_read g None = g
mutex_line_read g (Some told) = with_telling g told

-- a line of LTTng
abbrev pub with_mutex_line : Gathered → List ℕ → Gathered
with_mutex_line g line = mutex_line_read g (mutex_told line)
