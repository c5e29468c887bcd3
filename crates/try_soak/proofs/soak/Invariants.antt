use Rattle.try_soak.proofs.soak.Given as goal

abbrev pub ghosts-run-J-Naming : goal.ghosts-run-J-Naming
ghosts-run-J-Naming g a = record { list = a.opened.list }

abbrev pub ghosts-run-J-Room : goal.ghosts-run-J-Room
ghosts-run-J-Room g a = record { table = a.opened.table; start = a.opened.story.start }
