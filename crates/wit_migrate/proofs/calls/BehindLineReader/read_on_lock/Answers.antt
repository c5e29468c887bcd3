use Rattle.std.proofs.Common.{Ok, Err}
use Rattle.wit_grammar.specs.Lines.{as_line}
use Rattle.wit_migrate.specs.Migrates.{standing}
use Rattle.wit_migrate.proofs.BehindLemmas.{behind-fails, behind-goes}
use Rattle.wit_migrate.proofs.MigrateLemmas.{line-moves}
use Rattle.wit_migrate.proofs.calls.BehindLineReader.read_on_lock.Goals as goal

pub returns-in-Ok : goal.returns-in-Ok
returns-in-Ok c =
    let b = c.args.self.now in
    let new = c.enter_on_lock.new.self in
    behind-goes b new c.args.number c.args.bytes.now c.in-Ok.told
    (line-moves b.verifier b.raw b.remarks c.args.number c.args.bytes.now (as_line c.args.line)
    (standing b) (standing new) (Ok c.in-Ok.told) c.requires.ready.2 c.requires.found
    c.in-Ok.ensures)

pub returns-in-Err : goal.returns-in-Err
returns-in-Err c =
    let b = c.args.self.now in
    let new = c.enter_on_lock.new.self in
    behind-fails b new c.args.number c.args.bytes.now c.in-Err.error c.summary-found.result
    c.failed_step.new.text.items c.failed_step.result
    (line-moves b.verifier b.raw b.remarks c.args.number c.args.bytes.now (as_line c.args.line)
    (standing b) (standing new) (Err c.in-Err.error) c.requires.ready.2 c.requires.found
    c.in-Err.ensures)
    c.summary-found.ensures.total c.summary-found.ensures.circle c.failed_step.ensures
