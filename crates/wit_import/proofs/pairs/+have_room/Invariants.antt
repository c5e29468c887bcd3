use Rattle.std.proofs.Common.{length}
use Rattle.wit_import.proofs.pairs.+have_room.Given as goal

-- what is held and was not looked at
abbrev pub decreases-have_room : goal.decreases-have_room
decreases-have_room l = length l.held.now
