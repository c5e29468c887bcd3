use Rattle.wit_migrate.proofs.StepLineLemmas.{freed_from, taken_from}
use Rattle.wit_migrate.proofs.step_lines.put_step_line.Goals as goal

pub returns-in-Take : goal.returns-in-Take
returns-in-Take c =
    let k = c.args.step in
    rw c.in-Take.is (rw (taken_from k.seat k.lock c.args.beside.now (rw c.in-Take.is at c.requires))
    at c.put_fields.ensures)

pub returns-in-Free : goal.returns-in-Free
returns-in-Free c =
    let k = c.args.step in
    let line = rw c.in-Free.is at c.requires in
    rw c.in-Free.is (rw (freed_from k.seat k.lock line.0 c.args.beside.now line.1)
    at c.put_fields-in-Free.ensures)
