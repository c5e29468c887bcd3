use Rattle.std.proofs.Common.{◌≡◌, ◌-◌, [], ◌∷◌, ◌++◌, length}
use Rattle.std.proofs.Common.{slice_index_or, refl, sym, ◌∙◌, ap, subst, arith}
use Rattle.std.proofs.lemmas.Grind.{common_steps}
use Rattle.wit_alarms.specs.Facts.{closes}
use Rattle.wit_alarms.specs.Searching.{is_open, NoneGoesOn}
use Rattle.wit_alarms.proofs.Tried.{Tried, try_more, none_opens, none_further, all_tried}
use Rattle.wit_alarms.proofs.search.Search.+extend.Goals as goal

pub loop-next-preserved-then-not-goes_on : goal.loop-next-preserved-then-not-goes_on
loop-next-preserved-then-not-goes_on t c =
    let why = c.args.self.now.why in
    let lives = c.args.self.now.lives.now in
    let facts = c.args.self.now.facts.now in
    let live = c.args.self.now.live.now in
    let next = slice_index_or live c.loop-next.next-index 0 in
    let so_far = c.loop-next.invariant in
    try_more why lives facts live c.args.path.now.items c.loop-next.path.items
    c.loop-next.path.items c.loop-next.next-index c.args.most next so_far so_far.same refl
    (none_opens why lives facts c.args.path.now.items next c.args.most
    (ap (λ p. is_open why lives facts (p ++ next ∷ [])) (sym so_far.same ∙ sym c.deref.ensures.value)
    ∙ (sym c.goes_on.ensures ∙ c.if-not-goes_on.true)))

pub loop-next-preserved : goal.loop-next-preserved
loop-next-preserved t c =
    let why = c.args.self.now.why in
    let lives = c.args.self.now.lives.now in
    let facts = c.args.self.now.facts.now in
    let live = c.args.self.now.live.now in
    let next = slice_index_or live c.loop-next.next-index 0 in
    let so_far = c.loop-next.invariant in
    let pushed : c.push.new.self.items ≡ c.args.path.now.items ++ next ∷ [] =
    c.in_ok-push.ensures.items ∙ ap (λ p. p ++ next ∷ []) so_far.same in
    let back : c.extend.new.path.items ≡ c.args.path.now.items ++ next ∷ [] =
    c.in_ok-extend.ensures.same c.if-branch.false ∙ pushed in
    let popped : c.pop.new.self.items ≡ c.args.path.now.items =
    grind (arith, common_steps, back, c.pop.ensures.rest) in
    try_more why lives facts live c.args.path.now.items c.loop-next.path.items
    c.pop.new.self.items c.loop-next.next-index c.args.most next so_far popped refl
    (none_further why lives facts c.args.path.now.items next c.args.most
    (ap (closes why lives facts) (sym pushed ∙ sym c.deref-in-loop-next.ensures.value)
    ∙ (sym c.closes.ensures ∙ c.if-closes.false))
    (subst (λ p. NoneGoesOn why lives facts p (c.args.most - 1)) pushed
    (c.in_ok-extend.ensures.none c.if-branch.false)))

pub returns-clause-none : goal.returns-clause-none
returns-clause-none t c = λ is.
    let why = c.args.self.now.why in
    let lives = c.args.self.now.lives.now in
    let facts = c.args.self.now.facts.now in
    let live = c.args.self.now.live.now in
    let over = c.loop-next-test.false in
    let within = c.loop-next.auto.next-index-end in
    let whole : c.loop-next.next-index ≡ length live = omega (arith, over, within) in
    all_tried why lives facts live c.args.path.now.items c.loop-next.path.items c.args.most
    (subst (λ n. Tried why lives facts live c.args.path.now.items c.loop-next.path.items n
    c.args.most) whole c.loop-next.invariant)
    c.requires.all
