use Rattle.wit_duty.proofs.Answered.{empty-kept, kept-stays, known-told, answer-kept, answer-tells}
use Rattle.wit_duty.proofs.NoMore.{answer-tells_no_more}
use Rattle.wit_duty.proofs.laws.law_sets_are_told.Goals as goal

pub returns-clause-empty : goal.returns-clause-empty
returns-clause-empty c = empty-kept

pub returns-clause-stays : goal.returns-clause-stays
returns-clause-stays c = kept-stays

pub returns-clause-answers : goal.returns-clause-answers
returns-clause-answers c = answer-kept

pub returns-clause-pairs : goal.returns-clause-pairs
returns-clause-pairs c = answer-tells

pub returns-clause-no_more : goal.returns-clause-no_more
returns-clause-no_more c = answer-tells_no_more

pub returns-clause-alone : goal.returns-clause-alone
returns-clause-alone c = λ named sets g link b kept known. kept.alone link.type_no b known

pub returns-clause-known : goal.returns-clause-known
returns-clause-known c = known-told
