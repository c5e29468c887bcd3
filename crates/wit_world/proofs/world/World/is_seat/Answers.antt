use Rattle.std.proofs.Common.{nat_le, ap, ◌∙◌}
use Rattle.wit_model.specs.Rules.State.{state_of, is_seat}
use Rattle.wit_model.specs.World.Scenes.{Scene}
use Rattle.wit_world.proofs.Keeping.{number-tested}
use Rattle.wit_world.proofs.world.World.is_seat.Goals as goal

pub returns-then-seat-gt0 : goal.returns-then-seat-gt0
returns-then-seat-gt0 c =
    ap (nat_le c.args.seat.0) c.seats.ensures.value
    ∙ number-tested c.self.inside.verifier c.args.seat.0 c.if-seat-gt0.true
    ∙ ap (λ (s : Scene). is_seat (state_of s.story) c.args.seat.0) c.self.view_is
