use Rattle.std.proofs.Common.{◌≡◌, map}
use Rattle.std.specs.List.{range_with_len}
use Rattle.wit_model.specs.World.Shown.{waits_in}
use Rattle.wit_waiting.specs.Searching.{waiting, table_of}
use Rattle.wit_world.proofs.world.World.all_waiting.Given as goal

abbrev pub invariant-loop-place : goal.invariant-loop-place
invariant-loop-place l =
    table_of l.rows.items ≡ map (waiting (waits_in l.self) l.self.story.start.sizes.seats)
    (range_with_len 1 l.place)
