-- What the program does with its input.
use Rattle.std.specs.Prelude.{ℕ, ◌≡◌, ◌⊎◌, List, Option, Ok}
use Rattle.std.specs.Io.KnownBytes.{Keeps}
use Rattle.wit_stream.specs.Stream.{IsInput, WritesOutput, WritesFront}
use Rattle.wit_stream.specs.declared.summary.Summary.{Summary}
use Rattle.wit_orders.specs.Laws.{OrdersLeadRoundToNone}
use Rattle.wit_orders.specs.Outputs.{Answers, exit_status}

-- the whole answer to the input was written, and this is its status
pub record IsAnsweredWhole (read written_old written_new : Option (List ℕ))
    (ended : ℕ) : Type 0 where
  pub summary : Summary
  pub written : WritesOutput Answers read written_old written_new summary
  pub status : ended ≡ exit_status (Ok summary)

-- the pairs of the input lead no type round to itself
pub record HasNoCircle (read : Option (List ℕ)) : Type 0 where
  pub input : List ℕ
  pub is_input : IsInput read input
  pub none : OrdersLeadRoundToNone input

-- a beginning was written of the answer to the input, which may be nothing
abbrev pub IsCutShort : Option (List ℕ) → Option (List ℕ) → Option (List ℕ) → Type 0
IsCutShort read written_old written_new =
    Keeps written_old written_new ⊎ WritesFront Answers read written_old written_new
