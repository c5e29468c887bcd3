-- What a run writes of a trace, in place of what its machine allows.
use Rattle.std.proofs.Common.{◌≡◌, ℕ, ◌++◌, List, [], Option, Result, Ok, Err, IfOk, OnErr, subst}
use Rattle.std.specs.Global.{Vec}
use Rattle.wit_model.specs.Trace.Moving.{with_feeds}
use Rattle.wit_stream.specs.Stream.{OutputFrom, WritesFront, WritesOutput}
use Rattle.wit_stream.specs.Text.{text_of}
use Rattle.wit_stream.specs.declared.summary.Summary.{Summary}
use Rattle.wit_forecast.specs.Forecasts.{Forecasts}
use Rattle.wit_forecast.specs.Owners.{lines_in}
use Rattle.wit_forecast.specs.Forecasting.{allowed}
use Rattle.wit_forecast.specs.declared.forecasting.Forecasting.{Forecasting}
use Rattle.wit_forecast.proofs.Joined.{joined}

module _ (m : Forecasting) (empty : m.lines.items ≡ []) where
  of-all : (input text : List ℕ) (summary : Summary) → OutputFrom allowed m 1 input text summary
      → Forecasts input text summary
  of-all input text summary h =
      subst (λ bytes. Forecasts bytes text summary) (joined input)
      (subst (λ (kept : List (Vec ℕ)). Forecasts
      (with_feeds (lines_in kept ++ (text_of input).lines) ++ (text_of input).tail) text summary)
      empty h)

  pub run-whole : {E : Type 0} (r0 w0 w : Option (List ℕ)) (answer : Result Summary E)
      → IfOk answer (WritesOutput (OutputFrom allowed m 1) r0 w0 w)
      → IfOk answer (WritesOutput Forecasts r0 w0 w)
  run-whole r0 w0 w (Err e) h = tt
  run-whole r0 w0 w (Ok summary) h = record {
    input = h.input;
    text = h.text;
    is_input = h.is_input;
    is_output = of-all h.input h.text summary h.is_output;
    written = h.written;
  }

  pub run-cut : {E : Type 0} (r0 w0 w : Option (List ℕ)) (answer : Result Summary E)
      → OnErr answer (WritesFront (OutputFrom allowed m 1) r0 w0 w)
      → OnErr answer (WritesFront Forecasts r0 w0 w)
  run-cut r0 w0 w (Ok summary) h = tt
  run-cut r0 w0 w (Err e) h = record {
    input = h.input;
    text = h.text;
    summary = h.summary;
    is_input = h.is_input;
    is_output = of-all h.input h.text h.summary h.is_output;
    written = h.written;
  }
