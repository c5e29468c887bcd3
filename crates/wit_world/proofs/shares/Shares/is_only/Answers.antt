use Rattle.std.proofs.Common.{ap, sym, ◌∙◌}
use Rattle.std.specs.List.{list_all}
use Rattle.wit_model.specs.World.Scenes.{RawLock}
use Rattle.wit_world.specs.Holders.{is_holder}
use Rattle.wit_world.proofs.Having.{only-had}
use Rattle.wit_world.proofs.shares.Shares.is_only.Goals as goal

pub returns : goal.returns
returns c =
    only-had c.args.seat.0 c.args.self.now c.self.inside.holders.items c.are_all.result
    (c.are_all.ensures ∙ ap (list_all (is_holder c.args.seat.0)) c.deref.ensures.value)
    (ap (λ (k : RawLock). k.holders) c.self.view_is)
    (sym c.of.ensures ∙ c.if-of-ne1.false)
