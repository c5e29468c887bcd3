use Rattle.wit_circles.specs.declared.kept.Kept.{Kept}
use Rattle.wit_circles.proofs.Leading.{kept_more, rises_more}
use Rattle.wit_circles.proofs.kept.Kept.keep.Goals as goal

pub returns-in_ok-self-clause-kept : goal.returns-in_ok-self-clause-kept
returns-in_ok-self-clause-kept c = λ orders is.
    kept_more orders c.args.self.now is c.args.order _ c.requires.from c.requires.to
    c.in_ok-link.ensures
    (λ ranked. rw (c.deref-then-not-goes_up-2.ensures.value, c.deref-then-not-goes_up-3.ensures.value) at
    (c.rises-self.ensures ranked))

pub returns-else-not-goes_up-clause-kept : goal.returns-else-not-goes_up-clause-kept
returns-else-not-goes_up-clause-kept c = λ orders is.
    let old = c.args.self.now in
    let new : Kept = record { rows = c.link.new.rows; ranks = old.ranks; are_ranked = old.are_ranked } in
    kept_more orders old is c.args.order new c.requires.from c.requires.to c.in_ok-link.ensures
    (λ ranked. let up = c.goes_up-goes_up.ensures c.if-not-goes_up.false in
    rises_more orders old is c.args.order new c.requires.from c.requires.to
    c.in_ok-link.ensures old.ranks.items (is.ranked ranked) up.1)
