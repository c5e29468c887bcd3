use denote.Param.Send.{IsSync, part_keyless}
use Rattle.wit_observers.specs.contracts.tail.Tail.{the_row}
use Rattle.wit_observers.proofs.tail.Tail.TheSendSync.Send.{send}

pub sync : IsSync the_row
sync = record { shared = λ d b o κ q. part_keyless the_row send q d b o }
