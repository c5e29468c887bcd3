-- A forecast in progress.
use Rattle.std.specs.Prelude.{ℕ, ◌++◌, List, Some, false, refl}
use Rattle.std.proofs.Common.{inl}
use Rattle.wit_model.specs.declared.lines.Cause.TheVariants.{Cut}
use Rattle.wit_model.specs.Trace.Moving.{with_feeds}
use Rattle.wit_model.specs.Trace.Output.{bad_text}
use Rattle.wit_stream.specs.declared.summary.Summary.{Summary}
use Rattle.wit_forecast.specs.Forecasts.{Forecasts}
use Rattle.wit_forecast.specs.Owners.{lines_in}
use Rattle.wit_forecast.specs.declared.forecasting.Forecasting.{Forecasting}

-- what may be written of the lines that were kept and of what is still to come
abbrev pub allowed : Forecasting → ℕ → List (List ℕ) → List ℕ → List ℕ → Summary → Type 0
allowed m number lines tail text summary =
    Forecasts (with_feeds (lines_in m.lines.items ++ lines) ++ tail) text summary

-- something may be written of each trace
abbrev pub some_forecast : (trace : List ℕ)
    → (text : List ℕ) × ((summary : Summary) × Forecasts trace text summary)
some_forecast trace = (
  bad_text 1 Cut,
  (
    record { calls = 0; reports = 0; circle = false; bad = Some (1, Cut) },
    inl (record { number = 1; cause = Cut; written = refl; bad = refl }),
  ),
)
