use Rattle.std.proofs.Common.{◌∙◌}
use Rattle.wit_waiting.proofs.SeatRows.{free-now}
use Rattle.wit_waiting.proofs.seats.Seats.free_chunks.Goals as goal

pub returns : goal.returns
returns c =
    c.free_chunks.ensures.free ∙ free-now c.self.inside c.args.self.now c.self.view_is
    c.self.invariant
