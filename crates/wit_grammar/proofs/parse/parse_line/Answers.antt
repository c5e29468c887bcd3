use Rattle.std.proofs.Common.{arith}
use Rattle.wit_model.specs.Trace.Reading.{line_of}
use Rattle.wit_grammar.proofs.Found.{found, only, why}
use Rattle.wit_grammar.proofs.parse.parse_line.Goals as goal

pub returns-clause-found : goal.returns-clause-found
returns-clause-found c =
    found c.args.bytes.now c.finish_line.result
    (c.finish_line.ensures (line_of c.args.bytes.now) c.begin_line.ensures) (omega arith)

pub returns-clause-only : goal.returns-clause-only
returns-clause-only c =
    λ line spells small. only c.args.bytes.now c.finish_line.result line
    (c.finish_line.ensures (line_of c.args.bytes.now) c.begin_line.ensures) spells

pub returns-clause-why : goal.returns-clause-why
returns-clause-why c =
    why c.args.bytes.now c.finish_line.result
    (c.finish_line.ensures (line_of c.args.bytes.now) c.begin_line.ensures) (omega arith)

pub returns-clause-read : goal.returns-clause-read
returns-clause-read c =
    λ small. c.finish_line.ensures (line_of c.args.bytes.now) c.begin_line.ensures
