use Rattle.std.proofs.Common.{◌∙◌, ap, sym, subst}
use Rattle.wit_model.specs.Trace.LineCalls.{call_of}
use Rattle.wit_lines.specs.Replays.{GoesAsDue}
use Rattle.wit_trace.proofs.DrivingLemmas.{call_read, read_ends, read_told}
use Rattle.wit_trace.proofs.replaying.driving.DrivingLineReader.read_call.Goals as goal

pub returns-in-Ok : goal.returns-in-Ok
returns-in-Ok g c =
    let d = c.args.self.now.driven in
    let m = c.args.self.now.remarks in
    let drives = g.met.D.Driven.drives d in
    let p = g.D.Driven.reading d m in
    let q = g.D.Driven.reading c.log.new.self.driven c.log.new.self.remarks in
    let r = c.log.result in
    let made = c.requires.found in
    let does =
    subst (λ w. GoesAsDue w p q r)
    (sym (drives.numbered m (call_of made.line) made.file made.numbered
    ∙ ap (g.D.Driven.due d m) made.is)) c.log.ensures in
    let read =
    call_read (g.D.Driven.story d) (g.D.Driven.reading d) (g.D.Driven.due d) (g.D.Driven.waits d)
    drives m c.args.number c.args._bytes.now made.line q r c.requires.ready.1 made.found does in
    read_told c.args.view p q c.args.number c.args._bytes.now r c.in-Ok.told
    c.show.new.text.items (drives.stays m c.args.number c.args._bytes.now) read c.in-Ok.is
    c.show.ensures

pub returns-in-Err : goal.returns-in-Err
returns-in-Err g c =
    let d = c.args.self.now.driven in
    let m = c.args.self.now.remarks in
    let drives = g.met.D.Driven.drives d in
    let p = g.D.Driven.reading d m in
    let q = g.D.Driven.reading c.log.new.self.driven c.log.new.self.remarks in
    let r = c.log.result in
    let made = c.requires.found in
    let does =
    subst (λ w. GoesAsDue w p q r)
    (sym (drives.numbered m (call_of made.line) made.file made.numbered
    ∙ ap (g.D.Driven.due d m) made.is)) c.log.ensures in
    let read =
    call_read (g.D.Driven.story d) (g.D.Driven.reading d) (g.D.Driven.due d) (g.D.Driven.waits d)
    drives m c.args.number c.args._bytes.now made.line q r c.requires.ready.1 made.found does in
    read_ends c.args.view p q c.args.number c.args._bytes.now r c.in-Err.error
    c.ended_step.new.text.items c.ended_step.result
    (drives.stays m c.args.number c.args._bytes.now) read c.in-Err.is (c.ended_step.ensures c.args.view)
