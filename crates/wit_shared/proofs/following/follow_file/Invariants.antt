use Rattle.std.specs.Prelude.{[], ◌∷◌}
use Rattle.wit_shared.proofs.following.follow_file.Given as goal

abbrev pub ghosts-follow_file_as : goal.ghosts-follow_file_as
ghosts-follow_file_as g a = record { after = a.verifier.now; given = (a.file, a.name.now) ∷ [] }
