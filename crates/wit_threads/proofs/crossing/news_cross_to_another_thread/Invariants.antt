use Rattle.wit_threads.proofs.crossing.news_cross_to_another_thread.Given as goal

abbrev pub ghosts-cross-J-Naming : goal.ghosts-cross-J-Naming
ghosts-cross-J-Naming g a = record { list = a.opened.list }

abbrev pub ghosts-cross-J-Room : goal.ghosts-cross-J-Room
ghosts-cross-J-Room g a = record { table = a.opened.table; start = a.opened.story.start }
