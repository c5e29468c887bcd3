use Rattle.wit_tellings.specs.Facts.{life_of}
use Rattle.wit_tellings.specs.Heard.{heard}
use Rattle.wit_tellings.proofs.Turns.{turn}
use Rattle.wit_tellings.proofs.tellings.Tellings.makings.Goals as goal

pub loop-place-preserved : goal.loop-place-preserved
loop-place-preserved c =
    turn (life_of (heard c.args.self.now)) c.args.self.now.lives.entries c.loop-place.place
    c.loop-place.made.items c.put_making.new.to.items c.loop-place.invariant
    c.in_ok-put_making.ensures
