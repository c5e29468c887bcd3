use Rattle.wit_alarms.proofs.Alone.{by-thread, by-gate, by-readers, by-limit, by-waits, by-wait}
use Rattle.wit_alarms.proofs.Alone.{at-first, by-join, by-making}
use Rattle.wit_alarms.proofs.laws.law_reasons.Goals as goal

pub returns-clause-one_thread : goal.returns-clause-one_thread
returns-clause-one_thread c = by-thread

pub returns-clause-gate : goal.returns-clause-gate
returns-clause-gate c = by-gate

pub returns-clause-readers : goal.returns-clause-readers
returns-clause-readers c = by-readers

pub returns-clause-limit : goal.returns-clause-limit
returns-clause-limit c = by-limit

pub returns-clause-all_waits : goal.returns-clause-all_waits
returns-clause-all_waits c = by-waits

pub returns-clause-one_waits : goal.returns-clause-one_waits
returns-clause-one_waits c = by-wait

pub returns-clause-at_first : goal.returns-clause-at_first
returns-clause-at_first c = at-first

pub returns-clause-joined : goal.returns-clause-joined
returns-clause-joined c = by-join

pub returns-clause-made : goal.returns-clause-made
returns-clause-made c = by-making
