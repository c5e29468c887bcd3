use Rattle.std.specs.Prelude.{[]}
use Rattle.wit_shared.proofs.following.look.Given as goal

abbrev pub ghosts-look_as : goal.ghosts-look_as
ghosts-look_as g a = record { after = a.verifier.now; given = [] }
