use Rattle.std.proofs.Common.{sym, ◌∙◌, ap, subst, List}
use mathlib.Core.List.{IsPrefix}
use Rattle.wit_model.specs.declared.calls.Adoption.{Adoption}
use Rattle.wit_adoptions.specs.declared.link.ListLink.{ListLink}
use Rattle.wit_adoptions.specs.Links.{orders_since}
use Rattle.wit_adoptions.proofs.Ends.{orders_begin}
use Rattle.wit_adoptions.proofs.Fronts.{begins_through}
use Rattle.wit_adoptions.proofs.Steps.{covers_moves}
use Rattle.wit_adoptions.proofs.keeper.ListKeeper.covers.Goals as goal

pub compare_exchange-requires : goal.compare_exchange-requires
compare_exchange-requires g c =
    let kept = c.self.invariant in
    let offer = c.plain-offer.ensures in
    let pen = c.self.inside.pen in
    let book = sym (ap (λ w. w.book) kept.1) in (
      ap (λ w. w.tracked) kept.1,
      c.learn.ensures.0 ∙ (ap (λ s. s.book) c.again-both.ensures ∙ (kept.0.0 ∙ book)),
      kept.2.0 ∙ book,
      offer.0,
      rw (ap (λ w. w.key) kept.1, offer.3)
          (covers_moves c.learn.new.self.log c.plain-offer.result.ask pen.nib kept.2.1),
    )

-- all that is in the book behind the list's start was seen by the keeper, and the front is a
-- beginning of it
pub returns-clause-begins : goal.returns-clause-begins
returns-clause-begins g c =
    let start = g.J.Naming.list.start in
    let own = c.self.inside.seen.log in
    let theirs = c.front.inside.seen.log in
    let both = c.learn.new.self.log in
    let book = c.compare_exchange.new.seen.log in
    let seen : IsPrefix own both =
    subst (λ (l : List ListLink). IsPrefix l both) (ap (λ s. s.log) c.again-both.ensures)
    c.learn.ensures.2 in
    let all = c.compare_exchange.ensures.7.1 start own seen c.self.invariant.3 in
    let begins =
    orders_begin start theirs book
    (begins_through theirs both book c.learn.ensures.3 c.compare_exchange.ensures.6) in
    rw (← c.front.view_is) (subst
    (λ (l : List Adoption). IsPrefix (orders_since start theirs) l) all begins)
