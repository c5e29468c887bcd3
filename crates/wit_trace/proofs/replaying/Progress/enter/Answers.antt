use Rattle.wit_trace.proofs.replaying.Progress.enter.Goals as goal

pub returns-in-Unstarted : goal.returns-in-Unstarted
returns-in-Unstarted c = rw c.in-Unstarted.is (c.start.ensures c.args.number)
