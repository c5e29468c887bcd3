use Rattle.std.proofs.Common.{sym, ◌∙◌}
use Rattle.wit_model.proofs.Walking.{found-here, found-newer, found-nowhere}
use Rattle.wit_model.proofs.chunks.find_before.Goals as goal

pub returns-in-Some : goal.returns-in-Some
returns-in-Some c later newer =
    found-here c.args.lock.0 c.args.group.now later c.in-Some.index c.in-Some.ensures.place

pub returns-in-Some-newer : goal.returns-in-Some-newer
returns-in-Some-newer c later newer =
    found-newer c.args.lock.0 c.args.group.now later c.in-Some-newer.place c.in-None.ensures.place
    (sym c.in-Some-newer.is ∙ newer)

pub returns-in-None-newer : goal.returns-in-None-newer
returns-in-None-newer c later newer =
    found-nowhere c.args.lock.0 c.args.group.now later c.in-None.ensures.place
    (sym c.in-None-newer.is ∙ newer)
