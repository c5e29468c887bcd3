use Rattle.wit_threads.proofs.exhausting.chunks_run_out_in_a_thread.Given as goal

abbrev pub ghosts-run_out-J-Naming : goal.ghosts-run_out-J-Naming
ghosts-run_out-J-Naming g a = record { list = a.opened.list }

abbrev pub ghosts-run_out-J-Room : goal.ghosts-run_out-J-Room
ghosts-run_out-J-Room g a = record { table = a.opened.table; start = a.opened.story.start }
