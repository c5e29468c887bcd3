-- Where the exit status is 0, the pairs of the input have no circle.
use Rattle.std.proofs.Common.{◌≡◌, ℕ, List, Option, Result, Ok, Err, IfOk, refl, sym, ap, ◌∙◌}
use Rattle.wit_stream.specs.Stream.{WritesOutput}
use Rattle.wit_stream.specs.declared.summary.Summary.{Summary}
use Rattle.wit_stream.specs.declared.summary.ReplayError.{ReplayError}
use Rattle.wit_orders.specs.declared.answers.Answer.{Answer}
use Rattle.wit_orders.specs.declared.answers.Answer.TheVariants.{Acyclic, Refused}
use Rattle.wit_orders.specs.declared.answers.Flaw.TheVariants.{Long, Cut, Syntax, Unknown, Twice}
use Rattle.wit_orders.specs.declared.answers.Flaw.TheVariants.{Backward}
use Rattle.wit_orders.specs.Answers.{answer}
use Rattle.wit_orders.specs.Laws.{IsAcyclic}
use Rattle.wit_orders.specs.Outputs.{Answers, summary_of, exit_status}
use Rattle.wit_orders.proofs.Circles.{no-circle}
use Rattle.acyclic.specs.Program.{HasNoCircle}

abbrev status_of : Answer → ℕ
status_of a = let outcome : Result Summary ReplayError = Ok (summary_of a) in exit_status outcome

acyclic-at_0 : (input : List ℕ) (a : Answer) → answer input ≡ a → status_of a ≡ 0
    → IsAcyclic input
acyclic-at_0 input (Acyclic types pairs) at zero =
    record { types = types; pairs = pairs; answered = at }
acyclic-at_0 input (Refused n Long) at zero = (cc)
acyclic-at_0 input (Refused n Cut) at zero = (cc)
acyclic-at_0 input (Refused n Syntax) at zero = (cc)
acyclic-at_0 input (Refused n Unknown) at zero = (cc)
acyclic-at_0 input (Refused n Twice) at zero = (cc)
acyclic-at_0 input (Refused n Backward) at zero = (cc)

pub no-circle_at_0 : (read old new : Option (List ℕ)) (outcome : Result Summary ReplayError)
    → IfOk outcome (WritesOutput Answers read old new) → exit_status outcome ≡ 0
    → HasNoCircle read
no-circle_at_0 read old new (Err e) done zero = (cc)
no-circle_at_0 read old new (Ok s) done zero =
    let sums : exit_status (Ok s) ≡ status_of (answer done.input) =
    ap (λ (x : Summary). let outcome : Result Summary ReplayError = Ok x in exit_status outcome)
    done.is_output.summed in
    record {
      input = done.input;
      is_input = done.is_input;
      none =
          no-circle done.input
          (acyclic-at_0 done.input (answer done.input) refl (sym sums ∙ zero));
    }
