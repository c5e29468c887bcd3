use Rattle.wit_adoptions.proofs.program.keep.Given as goal

-- the list that was just opened
abbrev pub ghosts-keep_as : goal.ghosts-keep_as
ghosts-keep_as g a = record { list = a.opened }
