-- How a recorder's question is answered: which lines a request wants.
use Rattle.std.specs.Prelude.{ℕ, ◌≡◌, Bool, true, not, ◌&&◌, ◌||◌, ◌==◌, nat_lt, nat_le}
use Rattle.std.specs.Prelude.{List, [], ◌∷◌, length, if◌then◌else◌}
use Rattle.std.specs.List.{list_all}
use Rattle.wit_condensed.specs.declared.chain.Link.{Link}
use Rattle.wit_condensed.specs.declared.chain.Asked.{Asked}
use Rattle.wit_condensed.specs.declared.chain.TheConstants.{MOST_LINKS}
use Rattle.wit_condensed.specs.declared.condensed.Condensed.{Condensed}
use Rattle.wit_condensed.specs.declared.lines.Line.{Line}
use Rattle.wit_condensed.specs.declared.row.TheConstants.{TYPES}
use Rattle.wit_condensed.specs.Chains.{has_lock, has_type, is_alone, are_types}
use Rattle.wit_condensed.specs.Lines.{request_lines}
use Rattle.wit_condensed.specs.Rows.{has_pair, AddsPairs}

-- whether a question is one that can be answered in so much room
abbrev pub is_question : List Link → Asked → ℕ → Bool
is_question links asked room =
    nat_le (length links) MOST_LINKS && (nat_lt (length links) room
    && (nat_lt asked.type_no TYPES && are_types links))

-- whether each pair of a request for type b was written: that of one lock held alone, as such a one
abbrev pub is_known : Condensed → List Link → ℕ → Bool
is_known sets [] b = true
is_known sets (link ∷ []) b = has_pair sets.alone link.type_no b
is_known sets links b = list_all (λ (link : Link). has_pair sets.told link.type_no b) links

-- whether a request has pairs: one for a lock that the thread holds already has none
abbrev pub has_pairs : List Link → Asked → Bool
has_pairs links asked = not (has_lock links asked.lock)

-- whether a request is to be written: one that waits for long always is
abbrev pub is_wanted : Condensed → List Link → Asked → Bool → Bool
is_wanted sets links asked waits =
    waits || (has_pairs links asked && not (is_known sets links asked.type_no))

abbrev pub is_written : Condensed → List Link → Asked → Bool → ℕ → Bool
is_written sets links asked waits room =
    is_question links asked room && is_wanted sets links asked waits

-- whether (a, b) is a pair of the request
abbrev pub is_pair : List Link → Asked → ℕ → ℕ → Bool
is_pair links asked a b = (b == asked.type_no) && has_type links a

abbrev pub is_lone_pair : List Link → Asked → ℕ → ℕ → Bool
is_lone_pair links asked a b = (b == asked.type_no) && is_alone links a

-- the lines that are given
abbrev pub given_lines : Condensed → List Link → Asked → Bool → ℕ → List Line
given_lines sets links asked waits room =
    if is_written sets links asked waits room then request_lines links else []

-- by these lines a question is answered, in so much room. If there are any, the pairs of the
-- request are in the sets from then on
pub record Answers (old : Condensed) (links : List Link) (asked : Asked) (waits : Bool) (room : ℕ)
    (new : Condensed) (lines : List Line) : Type 0 where
  pub given : lines ≡ given_lines old links asked waits room
  pub told : AddsPairs old.told (λ a b. is_written old links asked waits room
      && (has_pairs links asked && is_pair links asked a b)) new.told
  pub alone : AddsPairs old.alone (λ a b. is_written old links asked waits room
      && (has_pairs links asked && is_lone_pair links asked a b)) new.alone
