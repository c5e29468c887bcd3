use Rattle.std.proofs.Common.{refl}
use Rattle.wit_model.specs.Trace.Output.{Unstarted}
use Rattle.wit_stream.proofs.Runs.{run-end, run-lines}
use Rattle.wit_lines.specs.Replays.{ShowsFrom}
use Rattle.wit_trace.specs.Replaying.{progress}
use Rattle.wit_trace.proofs.replaying.replay_through.Goals as goal

pub returns-clause-taken : goal.returns-clause-taken
returns-clause-taken g c =
    run-end progress (ShowsFrom _) _ Unstarted refl _ _ _ _ _ c.run.ensures.taken

pub returns-clause-told : goal.returns-clause-told
returns-clause-told g c = λ is.
    run-lines progress (ShowsFrom _) _ Unstarted refl _ _ _ _ (c.run.ensures.told is)
