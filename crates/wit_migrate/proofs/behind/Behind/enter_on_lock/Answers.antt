use Rattle.std.proofs.Common.{subst, sym}
use Rattle.wit_model.specs.Trace.Output.{call_of}
use Rattle.wit_grammar.specs.Lines.{as_line}
use Rattle.wit_lines.specs.LineCalls.{as_call}
use Rattle.wit_migrate.specs.Migrates.{IsLineOf, standing}
use Rattle.wit_migrate.proofs.StepLineLemmas.{read_call}
use Rattle.wit_migrate.proofs.NumberedLemmas.{line-numbered, not-numbered}
use Rattle.wit_migrate.proofs.behind.Behind.enter_on_lock.Goals as goal

pub returns-in_err-file : goal.returns-in_err-file
returns-in_err-file c =
    not-numbered c.args.self.now.verifier c.number_of.new.verifier c.args.self.now.raw
    c.args.self.now.remarks c.args.bytes.now (call_of (as_line c.args.line))
    c.in_err-file.field-0.0
    c.from_residual.result (rw c.file_on_lock.ensures at c.in_err-file.ensures)
    c.from_residual.ensures.1

pub returns : goal.returns
returns c =
    line-numbered c.args.self.now.verifier c.number_of.new.verifier c.args.self.now.raw
    c.args.self.now.remarks c.args.bytes.now (call_of (as_line c.args.line))
    (as_call c.lock_call.result) c.in_ok-file.file
    (standing c.make_call.new.self) c.make_call.result
    (rw c.file_on_lock.ensures at c.in_ok-file.ensures) c.lock_call.ensures c.make_call.ensures

pub make_call-requires-clause-line : goal.make_call-requires-clause-line
make_call-requires-clause-line c =
    subst (λ made. IsLineOf made c.args.bytes.now) (sym c.lock_call.ensures)
    (read_call c.args.bytes.now (as_line c.args.line) c.in_ok-file.file.0 c.requires.found)
