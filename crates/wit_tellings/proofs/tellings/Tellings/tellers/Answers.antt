use Rattle.wit_tellings.specs.Facts.{tellers_at}
use Rattle.wit_tellings.proofs.Turns.{turn}
use Rattle.wit_tellings.proofs.tellings.Tellings.tellers.Goals as goal

pub loop-place-preserved : goal.loop-place-preserved
loop-place-preserved c =
    turn (tellers_at c.args.types.now) c.args.self.now.asked.entries c.loop-place.place
    c.loop-place.all.items c.put_tellers.new.to.items c.loop-place.invariant
    c.in_ok-put_tellers.ensures
