use Rattle.std.proofs.Common.{Err, ap, subst, ◌∙◌, arith}
use Rattle.wit_model.specs.Trace.Output.{reached, BadLine}
use Rattle.wit_model.specs.Trace.Reading.{line_of}
use Rattle.wit_lines.specs.Replays.{EndsFor, IsRead, StandsAsDue}
use Rattle.wit_trace.specs.Replaying.{progress_of}
use Rattle.wit_fields.specs.declared.errors.LineError.TheVariants.{Bad}
use Rattle.wit_lines.proofs.ReportLemmas.{bad_one, ended_one, told_one}
use Rattle.wit_lines.proofs.WrittenLemmas.{if_ok, line_told, line_ends, refused_step}
use Rattle.wit_lines.proofs.WrittenLemmas.{short_line}
use Rattle.wit_trace.proofs.replaying.Replaying.opening_line.Goals as goal

pub returns-in-Some-clause-read : goal.returns-in-Some-clause-read
returns-in-Some-clause-read c =
    let old = progress_of c.args.self.now.progress in
    let new = progress_of c.reach.new.self in
    let n = c.args.number in
    let bytes = c.args.bytes.now in
    let view = c.args.self.now.view in
    let text = c.ended_step.new.text.items in
    let list : BadLine = (c.in-Some.number, c.in-Some.cause) in
    let refused =
    subst (StandsAsDue (reached old n bytes) old new) c.in-Some.is c.in_ok-number.ensures.stands in
    if_ok (EndsFor view new c.in-Some.number (Bad c.in-Some.cause) text)
    (IsRead view old n bytes new text) c.ended_step.result
    (λ s ends. (
      refused_step view old new n bytes list text s refused ends,
      omega (arith, c.in_ok-number.ensures.counted),
    )) (c.ended_step.ensures view)

pub ended_step-requires-in-Err : goal.ended_step-requires-in-Err
ended_step-requires-in-Err c = λ cause is.
    let passes =
    short_line (progress_of c.reach.new.self) (progress_of c.read.new.self) c.args.number
    c.args.bytes.now c.read.result c.requires.1
    (c.read.ensures (line_of c.args.bytes.now) c.begin_line.ensures) in
    omega (
      arith,
      bad_one (progress_of c.reach.new.self)
          (progress_of c.read.new.self) c.args.number c.args.bytes.now c.read.result passes
          cause (c.in-Err.is ∙ ap (λ e. Err e) is),
      c.in_ok-number.ensures.counted,
      c.requires.0,
      c.ranges.number,
    )

pub returns-in-Ok-clause-read : goal.returns-in-Ok-clause-read
returns-in-Ok-clause-read c =
    let old = progress_of c.args.self.now.progress in
    let mid = progress_of c.reach.new.self in
    let new = progress_of c.read.new.self in
    let n = c.args.number in
    let bytes = c.args.bytes.now in
    let passes =
    short_line mid new n bytes c.read.result c.requires.1
    (c.read.ensures (line_of bytes) c.begin_line.ensures) in
    let stands =
    subst (StandsAsDue (reached old n bytes) old mid) c.in_default.is
    c.in_ok-number.ensures.stands in (
      line_told c.args.self.now.view old mid new n bytes c.read.result c.in-Ok.told
          c.show.new.text.items stands passes c.in-Ok.is c.show.ensures,
      omega (
        arith,
        told_one mid new n bytes c.read.result passes c.in-Ok.told c.in-Ok.is,
        c.in_ok-number.ensures.counted,
      ),
    )

pub returns-in-Err-clause-read : goal.returns-in-Err-clause-read
returns-in-Err-clause-read c =
    let old = progress_of c.args.self.now.progress in
    let mid = progress_of c.reach.new.self in
    let new = progress_of c.read.new.self in
    let n = c.args.number in
    let bytes = c.args.bytes.now in
    let view = c.args.self.now.view in
    let text = c.ended_step-in-Err.new.text.items in
    let passes =
    short_line mid new n bytes c.read.result c.requires.1
    (c.read.ensures (line_of bytes) c.begin_line.ensures) in
    let stands =
    subst (StandsAsDue (reached old n bytes) old mid) c.in_default.is
    c.in_ok-number.ensures.stands in
    if_ok (EndsFor view new n c.in-Err.error text) (IsRead view old n bytes new text)
    c.ended_step-in-Err.result
    (λ s ends. (
      line_ends view old mid new n bytes c.read.result c.in-Err.error text s stands passes
          c.in-Err.is ends,
      let one = ended_one mid new n bytes c.read.result passes view c.in-Err.error text s
          c.in-Err.is ends in
          omega (arith, one, c.in_ok-number.ensures.counted),
    )) (c.ended_step-in-Err.ensures view)
