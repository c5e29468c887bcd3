use Rattle.std.proofs.Common.{◌≡◌, take}
use Rattle.std.specs.Prelude.{flat_map}
use Rattle.wit_tellings.specs.Facts.{life_of}
use Rattle.wit_tellings.specs.Heard.{heard}
use Rattle.wit_tellings.proofs.tellings.Tellings.makings.Given as goal

abbrev pub invariant-loop-place : goal.invariant-loop-place
invariant-loop-place l =
    l.made.items ≡ flat_map (life_of (heard l.self)) (take l.place l.self.lives.entries)
