use Rattle.wit_threads.proofs.closing.a_seat_that_logs_nothing_is_missed_and_no_other_one_is.Given as goal

abbrev pub ghosts-leave_seats-J-Naming : goal.ghosts-leave_seats-J-Naming
ghosts-leave_seats-J-Naming g a = record { list = a.opened.list }

abbrev pub ghosts-leave_seats-J-Room : goal.ghosts-leave_seats-J-Room
ghosts-leave_seats-J-Room g a = record { table = a.opened.table; start = a.opened.story.start }
