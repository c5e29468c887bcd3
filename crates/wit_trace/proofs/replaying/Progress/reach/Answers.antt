use Rattle.std.proofs.Common.{◌≡◌, sym, ◌∙◌}
use Rattle.wit_model.specs.Trace.Output.{reached}
use Rattle.wit_lines.specs.Replays.{reports_told, StandsAsDue}
use Rattle.wit_trace.specs.Replaying.{progress_of}
use Rattle.wit_lines.proofs.WrittenLemmas.{if_ok}
use Rattle.wit_lines.proofs.CountLemmas.{reaches_same}
use Rattle.wit_trace.proofs.replaying.Progress.reach.Goals as goal

pub returns-then-ends_prelude-clause-counted : goal.returns-then-ends_prelude-clause-counted
returns-then-ends_prelude-clause-counted c =
    let old = progress_of c.args.self.now in
    let new = progress_of c.end_prelude.new.self in
    if_ok (StandsAsDue (reached old c.args.number c.args.line.now) old new)
    (λ r. reports_told new ≡ reports_told old) c.end_prelude.result
    (λ r reaches. reaches_same old new c.args.number c.args.line.now r reaches)
    (c.end_prelude.ensures c.args.number c.args.line.now
    (sym c.ends_prelude.ensures ∙ c.if-ends_prelude.true))
