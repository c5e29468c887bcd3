use Rattle.wit_threads.proofs.threads.a_gate_is_entered_outside_the_lock_of_the_verifier.Given as goal

abbrev pub ghosts-wait_for_one_another-J-Naming : goal.ghosts-wait_for_one_another-J-Naming
ghosts-wait_for_one_another-J-Naming g a = record { list = a.opened.list }

abbrev pub ghosts-wait_for_one_another-J-Room : goal.ghosts-wait_for_one_another-J-Room
ghosts-wait_for_one_another-J-Room g a =
    record { table = a.opened.table; start = a.opened.story.start }
