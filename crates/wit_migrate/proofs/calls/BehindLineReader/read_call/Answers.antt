use Rattle.std.proofs.Common.{ℕ, Result, Ok, Err, subst, sym}
use Rattle.std.specs.Global.{Vec}
use Rattle.wit_fields.specs.declared.errors.LineError.{LineError}
use Rattle.wit_model.specs.Trace.Output.{Logs, call_of}
use Rattle.wit_lines.specs.Driven.{named_again}
use Rattle.wit_lines.specs.LineCalls.{file_named}
use Rattle.wit_migrate.specs.Migrates.{IsLineOf, standing}
use Rattle.wit_migrate.proofs.BehindLemmas.{behind-fails, behind-goes}
use Rattle.wit_migrate.proofs.MigrateLemmas.{line-moves}
use Rattle.wit_migrate.proofs.NumberedLemmas.{line-numbered}
use Rattle.wit_migrate.proofs.StepLineLemmas.{read_call}
use Rattle.wit_migrate.proofs.calls.BehindLineReader.read_call.Goals as goal

pub log-requires-clause-line : goal.log-requires-clause-line
log-requires-clause-line c =
    let made = c.requires.found in
    subst (λ call. IsLineOf call c.args.bytes.now) made.is
    (read_call c.args.bytes.now made.line made.file.0 made.found)

pub returns-in-Ok : goal.returns-in-Ok
returns-in-Ok c =
    let b = c.args.self.now in
    let new = c.log.new.self in
    let bytes = c.args.bytes.now in
    let made = c.requires.found in
    let r : Result (Vec ℕ) LineError = Ok c.in-Ok.told in
    behind-goes b new c.args.number bytes c.in-Ok.told
    (line-moves b.verifier b.raw b.remarks c.args.number bytes made.line (standing b) (standing new)
    r c.requires.ready.2 made.found
    (line-numbered b.verifier b.verifier b.raw b.remarks bytes (call_of made.line)
    (Logs c.args.seat.0 c.args.call) made.file (standing new) r
    (named_again b.verifier (file_named (call_of made.line)) made.file made.numbered) (sym made.is)
    c.in-Ok.ensures))

pub returns-in-Err : goal.returns-in-Err
returns-in-Err c =
    let b = c.args.self.now in
    let new = c.log.new.self in
    let bytes = c.args.bytes.now in
    let made = c.requires.found in
    let r : Result (Vec ℕ) LineError = Err c.in-Err.error in
    behind-fails b new c.args.number bytes c.in-Err.error c.summary-found.result
    c.failed_step.new.text.items c.failed_step.result
    (line-moves b.verifier b.raw b.remarks c.args.number bytes made.line (standing b) (standing new)
    r c.requires.ready.2 made.found
    (line-numbered b.verifier b.verifier b.raw b.remarks bytes (call_of made.line)
    (Logs c.args.seat.0 c.args.call) made.file (standing new) r
    (named_again b.verifier (file_named (call_of made.line)) made.file made.numbered) (sym made.is)
    c.in-Err.ensures))
    c.summary-found.ensures.total c.summary-found.ensures.circle c.failed_step.ensures
