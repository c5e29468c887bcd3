use Rattle.std.proofs.Common.{[], subst}
use Rattle.wit_model.specs.Trace.Output.{reached, BadLine}
use Rattle.wit_lines.specs.Replays.{StandsAsDue}
use Rattle.wit_trace.specs.Replaying.{progress_of}
use Rattle.wit_trace.proofs.DrivingLemmas.{ended_reached}
use Rattle.wit_lines.proofs.WrittenLemmas.{refused_end}
use Rattle.wit_trace.proofs.replaying.ReplayingMachine.end.Goals as goal

pub returns-in-Some : goal.returns-in-Some
returns-in-Some c =
    let old = progress_of c.args.self.now.progress in
    let new = progress_of c.reach.new.self in
    let list : BadLine = (c.in-Some.number, c.in-Some.cause) in
    refused_end c.args.self.now.view old new c.args.number list c.ended.result
    (subst (StandsAsDue (reached old c.args.number []) old new) c.in-Some.is
    c.in_ok-number.ensures.stands)
    c.ended.ensures.text c.ended.ensures.total c.ended.ensures.circle

pub returns-in-Reading : goal.returns-in-Reading
returns-in-Reading c =
    let old = progress_of c.args.self.now.progress in
    let new = progress_of c.reach.new.self in
    ended_reached c.args.self.now.view old new c.args.number c.ended-in-Reading.result
    (subst (StandsAsDue (reached old c.args.number []) old new) c.in_default.is
    c.in_ok-number.ensures.stands)
    (rw c.in-Reading.is (c.ended-in-Reading.ensures c.args.number))

pub returns-in-Stepping : goal.returns-in-Stepping
returns-in-Stepping c =
    let old = progress_of c.args.self.now.progress in
    let new = progress_of c.reach.new.self in
    ended_reached c.args.self.now.view old new c.args.number c.ended-in-Stepping.result
    (subst (StandsAsDue (reached old c.args.number []) old new) c.in_default.is
    c.in_ok-number.ensures.stands)
    (rw c.in-Stepping.is (c.ended-in-Stepping.ensures c.args.number))
