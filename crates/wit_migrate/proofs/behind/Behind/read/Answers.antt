use Rattle.wit_model.specs.Trace.Reading.{line_of}
use Rattle.wit_migrate.specs.Migrates.{standing}
use Rattle.wit_migrate.proofs.MigrateLemmas.{line-moves}
use Rattle.wit_migrate.proofs.behind.Behind.read.Goals as goal

pub enter-requires-clause-found : goal.enter-requires-clause-found
enter-requires-clause-found c = c.in_ok-line.ensures (line_of c.args.bytes.now) c.requires.begun

pub returns : goal.returns
returns c = λ number.
    let b = c.args.self.now in
    line-moves b.verifier b.raw b.remarks number c.args.bytes.now c.in_ok-line.line (standing b)
    (standing c.enter.new.self) c.enter.result c.requires.short
    (c.in_ok-line.ensures (line_of c.args.bytes.now) c.requires.begun) c.enter.ensures
