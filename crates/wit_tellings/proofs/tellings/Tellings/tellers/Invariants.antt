use Rattle.std.proofs.Common.{◌≡◌, take}
use Rattle.std.specs.Prelude.{flat_map}
use Rattle.wit_tellings.specs.Facts.{tellers_at}
use Rattle.wit_tellings.proofs.tellings.Tellings.tellers.Given as goal

abbrev pub invariant-loop-place : goal.invariant-loop-place
invariant-loop-place l =
    l.all.items ≡ flat_map (tellers_at l.types) (take l.place l.self.asked.entries)
