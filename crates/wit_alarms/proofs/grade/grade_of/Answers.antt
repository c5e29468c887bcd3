use Rattle.std.proofs.Common.{sym, subst}
use Rattle.wit_alarms.specs.Facts.{all_reasons}
use Rattle.wit_alarms.specs.Searching.{IsEnough}
use Rattle.wit_alarms.proofs.Fewer.{enough_for}
use Rattle.wit_alarms.proofs.grade.grade_of.Goals as goal

pub find-requires : goal.find-requires
find-requires c =
    enough_for all_reasons c.args.lives.now c.args.facts.now c.deref.result.now
    (subst (λ p. IsEnough c.args.facts.now p) (sym c.deref.ensures.value) c.in_ok-live.ensures)
