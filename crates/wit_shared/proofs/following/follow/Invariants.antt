use Rattle.std.specs.Prelude.{[]}
use Rattle.wit_shared.proofs.following.follow.Given as goal

abbrev pub ghosts-follow_as : goal.ghosts-follow_as
ghosts-follow_as g a = record { after = a.verifier.now; given = [] }
