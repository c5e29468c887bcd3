use Rattle.wit_grammar.specs.Lines.{as_line}
use Rattle.wit_trace.proofs.DrivingLemmas.{call_read, read_ends, read_told}
use Rattle.wit_trace.proofs.replaying.driving.DrivingLineReader.read_on_lock.Goals as goal

pub returns-in-Ok : goal.returns-in-Ok
returns-in-Ok g c =
    let d = c.args.self.now.driven in
    let m = c.args.self.now.remarks in
    let drives = g.met.D.Driven.drives d in
    let p = g.D.Driven.reading d m in
    let q = g.D.Driven.reading c.enter_on_lock.new.self.driven c.enter_on_lock.new.self.remarks in
    let r = c.enter_on_lock.result in
    read_told c.args.view p q c.args.number c.args._bytes.now r c.in-Ok.told
    c.show.new.text.items (drives.stays m c.args.number c.args._bytes.now)
    (call_read (g.D.Driven.story d) (g.D.Driven.reading d) (g.D.Driven.due d) (g.D.Driven.waits d)
    drives m c.args.number c.args._bytes.now (as_line c.args.line) q r c.requires.ready.1
    c.requires.found c.enter_on_lock.ensures)
    c.in-Ok.is c.show.ensures

pub returns-in-Err : goal.returns-in-Err
returns-in-Err g c =
    let d = c.args.self.now.driven in
    let m = c.args.self.now.remarks in
    let drives = g.met.D.Driven.drives d in
    let p = g.D.Driven.reading d m in
    let q = g.D.Driven.reading c.enter_on_lock.new.self.driven c.enter_on_lock.new.self.remarks in
    let r = c.enter_on_lock.result in
    read_ends c.args.view p q c.args.number c.args._bytes.now r c.in-Err.error
    c.ended_step.new.text.items c.ended_step.result
    (drives.stays m c.args.number c.args._bytes.now)
    (call_read (g.D.Driven.story d) (g.D.Driven.reading d) (g.D.Driven.due d) (g.D.Driven.waits d)
    drives m c.args.number c.args._bytes.now (as_line c.args.line) q r c.requires.ready.1
    c.requires.found c.enter_on_lock.ensures)
    c.in-Err.is (c.ended_step.ensures c.args.view)
