-- What is told of a schedule once it was tried.
use Rattle.std.proofs.Common.{◌≡◌, ℕ, ◌≤◌, ◌++◌, List, Result, Ok, Err, Option, None, Some, IfOk, IfSome}
use Rattle.std.proofs.Common.{Bool, refl, ap, ◌∙◌}
use Rattle.std.proofs.lemmas.List.{map-append}
use Rattle.std.specs.Global.{Vec}
use Rattle.wit_model.specs.Trace.Moving.{with_feeds}
use Rattle.wit_forecast.specs.Errands.{making, without_seats, HasErrand}
use Rattle.wit_forecast.specs.Forecasts.{EndsInCircle, IsMeeting, IsSchedule}
use Rattle.wit_forecast.specs.Owners.{lines_in, own, Begins, most_seats}

-- of the lines of a trace some are its prelude, and the chosen ones stand after it
pub is_schedule : {E : Type 0} (lines prelude body chosen : List (Vec ℕ))
    (answer : Result (Option (Vec ℕ)) E) → lines ≡ prelude ++ body
    → ((seat : ℕ) → seat ≤ most_seats
    → Begins (own seat (lines_in chosen)) (own seat (lines_in body)))
    → IfOk answer (λ found. IfSome found (λ text. EndsInCircle text.items))
    → IfOk answer (λ found. IfSome found (λ text.
    text.items ≡ with_feeds (lines_in prelude ++ lines_in chosen)))
    → IfOk answer (λ found. IfSome found (λ text.
    IsSchedule (with_feeds (lines_in lines)) text.items))
is_schedule lines prelude body chosen (Err e) parts begins ends is = tt
is_schedule lines prelude body chosen (Ok None) parts begins ends is = tt
is_schedule lines prelude body chosen (Ok (Some text)) parts begins ends is = record {
  reorders = record {
    head = lines_in prelude;
    body = lines_in body;
    chosen = lines_in chosen;
    read =
        ap (λ (ls : List (Vec ℕ)). with_feeds (lines_in ls)) parts
        ∙ ap with_feeds (map-append (λ (line : Vec ℕ). line.items) prelude body);
    written = is;
    begins = begins;
  };
  ends = ends;
}

-- the chosen lines are errands of the trace
pub is_meeting : {E : Type 0} (own_alone : Bool) (lines prelude body opening made chosen : List (Vec ℕ))
    (answer : Result (Option (Vec ℕ)) E) → lines ≡ prelude ++ body
    → without_seats (lines_in opening) ≡ without_seats (lines_in prelude)
    → Begins (lines_in made) (making (lines_in body))
    → ((seat : ℕ) → seat ≤ most_seats → HasErrand own_alone (lines_in chosen) (lines_in body) seat)
    → IfOk answer (λ found. IfSome found (λ text. EndsInCircle text.items))
    → IfOk answer (λ found. IfSome found (λ text.
    text.items ≡ with_feeds (lines_in opening ++ (lines_in made ++ lines_in chosen))))
    → IfOk answer (λ found. IfSome found (λ text.
    IsMeeting own_alone (with_feeds (lines_in lines)) text.items))
is_meeting own_alone lines prelude body opening made chosen (Err e) parts opens begins errands ends is = tt
is_meeting own_alone lines prelude body opening made chosen (Ok None) parts opens begins errands ends is = tt
is_meeting own_alone lines prelude body opening made chosen (Ok (Some text)) parts opens begins errands ends is =
    record {
      lines = lines_in lines;
      opening = lines_in opening;
      made = lines_in made;
      chosen = lines_in chosen;
      read = refl;
      written = is;
      errands = record {
        head = lines_in prelude;
        body = lines_in body;
        read =
            ap lines_in parts ∙ map-append (λ (line : Vec ℕ). line.items) prelude body;
        opens = opens;
        makings = begins;
        errands = errands;
      };
      ends = ends;
    }
