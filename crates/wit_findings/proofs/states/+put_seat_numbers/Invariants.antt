use Rattle.std.proofs.Common.{length}
use Rattle.wit_findings.proofs.states.+put_seat_numbers.Given as goal

abbrev pub decreases-put_seat_numbers : goal.decreases-put_seat_numbers
decreases-put_seat_numbers l = length l.seats.now
