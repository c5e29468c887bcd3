-- How far a replay in progress is, and what it may write.
use Rattle.std.specs.Prelude.{ℕ, ◌≡◌, List, Result, Ok, Err}
use Rattle.wit_model.specs.declared.lines.Cause.{Cause}
use Rattle.wit_model.specs.Trace.Output as output
use Rattle.wit_stream.specs.declared.summary.Summary.{Summary}
use Rattle.wit_lines.specs.Replays.{prelude_of, allowed_from}
use Rattle.wit_lines.specs.declared.view.View.{View}
use Rattle.wit_trace.specs.declared.replaying.Replaying.{Replaying}
use Rattle.wit_trace.specs.declared.replaying.Progress.{Progress}
use Rattle.wit_trace.specs.declared.replaying.Progress.TheVariants.{Unstarted, Opening, Reading}
use Rattle.wit_trace.specs.declared.replaying.Progress.TheVariants.{Stepping}

-- how far a reading is
abbrev pub progress_of : Progress → output.Progress
progress_of Unstarted = output.Unstarted
progress_of (Opening prelude) = output.Opening (prelude_of prelude)
progress_of (Reading d) = output.Reading d.driven d.remarks
progress_of (Stepping d) = output.Stepping d.driven d.remarks

abbrev pub progress : Replaying → output.Progress
progress m = progress_of m.progress

-- what a replay in progress may
abbrev pub allowed : View → Replaying → ℕ → List (List ℕ) → List ℕ → List ℕ → Summary → Type 0
allowed view m = allowed_from view (progress m)

-- the verifier was made, or a list refused, as it should be
abbrev pub Opens : Result output.Progress output.BadLine → Result Progress (ℕ × Cause) → Type 0
Opens due (Ok p) = due ≡ Ok (progress_of p)
Opens due (Err bad) = due ≡ Err bad
