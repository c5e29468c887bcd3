use Rattle.std.proofs.Common.{IsOk, refl, sym, subst}
use Rattle.wit_model.proofs.laws.rules.law_note_after_check.Goals as goal
use Rattle.wit_model.proofs.Histories.Asked.{note_pending, give_up_pending, note_checked}

pub returns-clause-pending : goal.returns-clause-pending
returns-clause-pending c =
    λ s t q legal is. subst IsOk (sym (note_pending s.start s.files s.history t q legal is)) refl

pub returns-clause-given_up : goal.returns-clause-given_up
returns-clause-given_up c = λ s t q legal is. give_up_pending s.start s.files s.history t q legal is

pub returns-clause-at_once : goal.returns-clause-at_once
returns-clause-at_once c = λ s t q r legal ok. subst IsOk (sym (note_checked s t q r legal ok)) refl
