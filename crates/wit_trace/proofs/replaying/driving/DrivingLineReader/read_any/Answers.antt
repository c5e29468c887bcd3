use Rattle.std.proofs.Common.{Err, ap, ◌∙◌, arith}
use Rattle.wit_model.specs.Trace.Reading.{line_of}
use Rattle.wit_trace.proofs.DrivingLemmas.{read_ends, read_told}
use Rattle.wit_lines.proofs.ReportLemmas.{bad_one}
use Rattle.wit_lines.proofs.WrittenLemmas.{short_line}
use Rattle.wit_trace.proofs.replaying.driving.DrivingLineReader.read_any.Goals as goal

pub returns-in-Ok : goal.returns-in-Ok
returns-in-Ok g c =
    let d = c.args.self.now.driven in
    let m = c.args.self.now.remarks in
    let n = c.args.number in
    let bytes = c.args._bytes.now in
    let p = g.D.Driven.reading d m in
    let q = g.D.Driven.reading c.read.new.self.driven c.read.new.self.remarks in
    read_told c.args.view p q n bytes c.read.result c.in-Ok.told c.show.new.text.items
    ((g.met.D.Driven.drives d).stays m n bytes)
    (short_line p q n bytes c.read.result c.requires.ready.1
    (c.read.ensures n (line_of bytes) c.requires.begun))
    c.in-Ok.is c.show.ensures

pub returns-in-Err : goal.returns-in-Err
returns-in-Err g c =
    let d = c.args.self.now.driven in
    let m = c.args.self.now.remarks in
    let n = c.args.number in
    let bytes = c.args._bytes.now in
    let p = g.D.Driven.reading d m in
    let q = g.D.Driven.reading c.read.new.self.driven c.read.new.self.remarks in
    read_ends c.args.view p q n bytes c.read.result c.in-Err.error
    c.ended_step.new.text.items c.ended_step.result
    ((g.met.D.Driven.drives d).stays m n bytes)
    (short_line p q n bytes c.read.result c.requires.ready.1
    (c.read.ensures n (line_of bytes) c.requires.begun))
    c.in-Err.is (c.ended_step.ensures c.args.view)

pub ended_step-requires : goal.ended_step-requires
ended_step-requires g c = λ cause is.
    let n = c.args.number in
    let bytes = c.args._bytes.now in
    let p = g.D.Driven.reading c.args.self.now.driven c.args.self.now.remarks in
    let q = g.D.Driven.reading c.read.new.self.driven c.read.new.self.remarks in
    let passes =
    short_line p q n bytes c.read.result c.requires.ready.1
    (c.read.ensures n (line_of bytes) c.requires.begun) in
    omega (
      arith,
      bad_one p q n bytes c.read.result passes cause (c.in-Err.is ∙ ap (λ e. Err e) is),
      c.requires.ready.0,
      c.ranges.number,
    )
