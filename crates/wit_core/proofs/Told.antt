-- The reply that tells a verdict.
use Rattle.std.proofs.Common.{◌≡◌, true, List, Ok, sym, ap}
use Rattle.wit_model.specs.declared.locks.TypeNo.{TypeNo}
use Rattle.wit_model.specs.declared.calls.Reply.{Reply}
use Rattle.wit_model.specs.Rules.Step.{is_logged}
use Rattle.wit_model.proofs.Histories.Accepted.{same_reply}
use Rattle.wit_check.specs.declared.answers.Verdict.{Verdict}
use Rattle.wit_check.specs.declared.answers.Verdict.TheVariants as verdict
use Rattle.wit_check.specs.Answers.{answer_by}

-- it is logged
pub told-logged : (new : List (TypeNo × TypeNo)) (d : Verdict) (r : Reply) → answer_by new d ≡ Ok r
    → is_logged r ≡ true
told-logged new verdict.Pass r is = ap is_logged (sym (same_reply is))
told-logged new (verdict.Adopt p c) r is = ap is_logged (sym (same_reply is))
told-logged new verdict.AdoptAll r is = ap is_logged (sym (same_reply is))
told-logged new (verdict.Silent a b) r is = ap is_logged (sym (same_reply is))
told-logged new (verdict.Duplicate d) r is = ap is_logged (sym (same_reply is))
told-logged new (verdict.Reversal c) r is = ap is_logged (sym (same_reply is))
told-logged new (verdict.Fault f) r is = (cc)
