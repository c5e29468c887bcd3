use Rattle.wit_shared.proofs.program.share.Given as goal

abbrev pub ghosts-run_as-J-Naming : goal.ghosts-run_as-J-Naming
ghosts-run_as-J-Naming g a = record { list = a.opened.list }

abbrev pub ghosts-run_as-J-Room : goal.ghosts-run_as-J-Room
ghosts-run_as-J-Room g a = record { table = a.opened.table; start = a.opened.story.start }
