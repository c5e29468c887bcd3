use Rattle.wit_errands.proofs.Rounds.{meeting-hangs}
use Rattle.wit_errands.proofs.laws.law_meeting_errands_hang.Goals as goal

pub returns : goal.returns
returns c = λ start files first deeds askers settled apart round meet.
    meeting-hangs start files first deeds settled askers apart meet round
