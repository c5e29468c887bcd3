-- What is answered of a sequence of types and of pairs of them, as their lines come.
use Rattle.std.specs.Prelude.{ℕ, ◌+◌, nat_lt, List, [], ◌∷◌, ◌++◌, length, position, Option, Some}
use Rattle.std.specs.Prelude.{None, codes, if◌then◌else◌}
use Rattle.std.specs.Fmt.{decimal}
use Rattle.std.specs.Str.{bytes_eq}
use Rattle.wit_model.specs.Trace.Texts as texts
use Rattle.wit_recordings.specs.Recordings.{NamedType}
use Rattle.wit_grammar.specs.declared.parse.TheConstants.{LONGEST}
use Rattle.wit_stream.specs.Text.{text_of}
use Rattle.wit_orders.specs.declared.answers.Flaw.{Flaw}
use Rattle.wit_orders.specs.declared.answers.Flaw.TheVariants.{Long, Cut, Syntax, Unknown, Twice}
use Rattle.wit_orders.specs.declared.answers.Flaw.TheVariants.{Backward}
use Rattle.wit_orders.specs.declared.answers.Answer.{Answer}
use Rattle.wit_orders.specs.declared.answers.Answer.TheVariants.{Acyclic, Refused}
use Rattle.wit_orders.specs.declared.reading.OrderLine.{OrderLine}
use Rattle.wit_orders.specs.declared.reading.OrderLine.TheVariants.{Listed, Pair}
use Rattle.wit_orders.specs.Reading.{type_text, order_line}

-- ---- what was read so far: the sequence of the types, as they are written, and how many pairs
pub record Seen : Type 0 where
  pub types : List (List ℕ)
  pub pairs : ℕ

abbrev pub nothing_seen : Seen
nothing_seen = record { types = []; pairs = 0 }

-- where a type that is written so stands in the sequence
abbrev pub place_in : List (List ℕ) → List ℕ → Option ℕ
place_in types text = position (bytes_eq text) types

-- ---- what is wrong with a line

-- with a pair whose types have these places: it is to go forward
abbrev pub pair_flaw : Option ℕ → Option ℕ → Option Flaw
pair_flaw (Some m) (Some n) = if nat_lt m n then None else Some Backward
pair_flaw (Some m) None = Some Unknown
pair_flaw None place = Some Unknown

-- with a type that has this place: it is to have none yet
abbrev pub type_flaw : Option ℕ → Option Flaw
type_flaw None = None
type_flaw (Some n) = Some Twice

-- with what a line says behind this sequence
abbrev pub flaw_of : List (List ℕ) → OrderLine NamedType → Option Flaw
flaw_of types (Listed t) = type_flaw (place_in types (type_text t))
flaw_of types (Pair a b) = pair_flaw (place_in types (type_text a)) (place_in types (type_text b))

-- ---- what follows a line

abbrev pub with_type : Seen → List ℕ → Seen
with_type s text = record s { types = s.types ++ text ∷ [] }

abbrev pub with_pair : Seen → Seen
with_pair s = record s { pairs = s.pairs + 1 }

abbrev pub seen_after : Seen → OrderLine NamedType → Seen
seen_after s (Listed t) = with_type s (type_text t)
seen_after s (Pair a b) = with_pair s

-- ---- the answer

abbrev pub answer_unless : Option Flaw → ℕ → Answer → Answer
answer_unless None n answer = answer
answer_unless (Some flaw) n answer = Refused n flaw

-- behind the last whole line
abbrev pub answer_at_end : Seen → ℕ → List ℕ → Answer
answer_at_end s n [] = Acyclic (length s.types) s.pairs
answer_at_end s n (b ∷ tail) =
    Refused n (if nat_lt LONGEST (length (b ∷ tail)) then Long else Cut)

-- at a line of which this is read
abbrev pub answer_at : Seen → ℕ → Option (OrderLine NamedType) → (Seen → Answer) → Answer
answer_at s n None next = Refused n Syntax
answer_at s n (Some said) next = answer_unless (flaw_of s.types said) n (next (seen_after s said))

-- from here on, where the next line has number n, these whole lines and this unfinished one are to
-- come: the first line with a flaw is refused, and where there is none each pair goes forward
abbrev pub answer_from : Seen → ℕ → List (List ℕ) → List ℕ → Answer
answer_from s n [] tail = answer_at_end s n tail
answer_from s n (line ∷ lines) tail =
    if nat_lt LONGEST (length line) then Refused n Long
    else answer_at s n (order_line line) (λ next. answer_from next (n + 1) lines tail)

-- the answer to an input
abbrev pub answer : List ℕ → Answer
answer input = answer_from nothing_seen 1 (text_of input).lines (text_of input).tail

-- ---- what is written

abbrev pub flaw_text : Flaw → List ℕ
flaw_text Long = codes "long"
flaw_text Cut = codes "cut"
flaw_text Syntax = codes "syntax"
flaw_text Unknown = codes "unknown type"
flaw_text Twice = codes "listed twice"
flaw_text Backward = codes "backward"

abbrev pub answer_text : Answer → List ℕ
answer_text (Acyclic types pairs) =
    texts.line (codes "acyclic: " ∷ decimal types ∷ codes " types, " ∷ decimal pairs
    ∷ codes " pairs" ∷ [])
answer_text (Refused n flaw) =
    texts.line (codes "line " ∷ decimal n ∷ codes ": " ∷ flaw_text flaw ∷ [])
