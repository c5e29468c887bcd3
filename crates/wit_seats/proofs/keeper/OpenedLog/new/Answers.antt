use Rattle.wit_seats.proofs.Rules.{begins}
use Rattle.wit_seats.proofs.keeper.OpenedLog.new.Goals as goal

pub of_words-requires : goal.of_words-requires
of_words-requires c = begins
