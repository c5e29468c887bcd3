use Rattle.std.proofs.Common.{sym, ◌∙◌, ap}
use Rattle.wit_adoptions.proofs.Steps.{adds_moves}
use Rattle.wit_adoptions.proofs.keeper.ListKeeper.add.Goals as goal

pub compare_exchange-requires : goal.compare_exchange-requires
compare_exchange-requires g c =
    let kept = c.self.invariant in
    let offer = c.plain-offer.ensures in
    let pen = c.self.inside.pen in
    let book = sym (ap (λ w. w.book) kept.1) in (
      ap (λ w. w.tracked) kept.1,
      kept.0.0 ∙ book,
      kept.2.0 ∙ book,
      offer.0,
      rw (ap (λ w. w.key) kept.1, offer.3)
          (adds_moves c.self.inside.seen.log c.plain-offer.result.ask pen.nib kept.2.1
          (sym (ap (λ l. l.end) offer.1))),
    )
