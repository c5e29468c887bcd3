use Rattle.std.proofs.Common.{Ok}
use Rattle.wit_shared.proofs.Steps.{names, may_follow, named_there}
use Rattle.wit_shared.proofs.desk.Desk.file.Goals as goal

pub follow_file-requires-clause-grows : goal.follow_file-requires-clause-grows
follow_file-requires-clause-grows g c =
    may_follow c.self.inside.keeper c.self.inside.verifier c.file.new.self c.self.inside.handed
    c.args.seat.now.seat c.self.invariant.1
    (names c.args.seat.now.seat c.args.name.now c.self.inside.verifier
    (Ok c.in-Ok.file) c.file.new.self c.in-Ok.ensures)

pub follow_file-requires-clause-named : goal.follow_file-requires-clause-named
follow_file-requires-clause-named g c =
    named_there c.args.name.now c.self.inside.verifier c.in-Ok.file c.file.new.self c.in-Ok.ensures
