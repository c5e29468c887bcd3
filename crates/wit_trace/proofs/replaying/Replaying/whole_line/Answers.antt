use Rattle.wit_trace.proofs.replaying.Replaying.whole_line.Goals as goal

pub returns-in-Reading-clause-read : goal.returns-in-Reading-clause-read
returns-in-Reading-clause-read c = rw c.in-Reading.is c.read_line.ensures

pub returns-in-Stepping-clause-read : goal.returns-in-Stepping-clause-read
returns-in-Stepping-clause-read c = rw c.in-Stepping.is c.read_step_line.ensures
