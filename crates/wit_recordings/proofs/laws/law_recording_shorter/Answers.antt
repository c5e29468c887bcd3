use Rattle.std.proofs.Common.{refl, arith}
use Rattle.wit_model.proofs.World.Crossed.{one_waits, two_waits}
use Rattle.wit_recordings.proofs.Shorter.{shorter-legal, shorter-told, crossed-told}
use Rattle.wit_recordings.proofs.laws.law_recording_shorter.Goals as goal

pub returns-clause-clean : goal.returns-clause-clean
returns-clause-clean c = (refl, (refl, (shorter-legal, refl)))

pub returns-clause-told : goal.returns-clause-told
returns-clause-told c = (shorter-told, (omega arith))

pub returns-clause-reported : goal.returns-clause-reported
returns-clause-reported c = (crossed-told, (refl, (one_waits, two_waits)))
