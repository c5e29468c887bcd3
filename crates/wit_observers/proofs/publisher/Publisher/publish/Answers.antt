use Rattle.std.proofs.Common.{◌≡◌, ◌+◌, ◌<◌, ◌^◌, true, [], length, Vec, Global, sym, ap, ◌∙◌}
use Rattle.std.proofs.Common.{subst, append-nil}
use Rattle.wit_model.specs.declared.calls.Adoption.{Adoption}
use Rattle.wit_observers.specs.Numbers.{all_fit}
use Rattle.wit_observers.specs.Shown.{Published, shape_of}
use Rattle.wit_observers.proofs.Showing.{can_show, can_renew, goes_on, IsPublished, published_more}
use Rattle.wit_observers.proofs.Showing.{published_as, published_same, either_way}
use Rattle.wit_observers.proofs.publisher.Publisher.publish.Goals as goal

pub show_change-requires-clause-goes_on : goal.show_change-requires-clause-goes_on
show_change-requires-clause-goes_on g c =
    let inv = c.self.invariant in
    let said = c.change-more.ensures in
    let s = shape_of c.self.inside.writer.desk.shown.value in
    let items =
    ap (λ (v : Vec Adoption Global). v.items) said.orders ∙ c.in_ok-from_slice.ensures.items in
    goes_on g.J.Naming.list s c.change-more.result inv.1
    (can_show g.J.Naming.list s c.change-more.result c.self.inside.keeper c.args.orders.now inv.2
    items said.before said.page said.all
    (subst (λ (p : Published). all_fit p.size c.args.orders.now ≡ true)
    (sym c.self.view_is) c.requires.fit)
    (subst (λ (p : Published). length p.orders + length c.args.orders.now < 2 ^ 32)
    (sym c.self.view_is) c.requires.room))

pub show_change-requires-2-clause-goes_on : goal.show_change-requires-2-clause-goes_on
show_change-requires-2-clause-goes_on g c =
    let name = g.J.Naming.list in
    let inv = c.self.invariant in
    let said = c.change-more.ensures in
    let s = shape_of c.self.inside.writer.desk.shown.value in
    let t = shape_of c.show_change.new.writer.desk.shown.value in
    let items =
    ap (λ (v : Vec Adoption Global). v.items) said.orders ∙ c.in_ok-from_slice.ensures.items in
    let can =
    can_show name s c.change-more.result c.self.inside.keeper c.args.orders.now inv.2 items
    said.before said.page said.all
    (subst (λ (p : Published). all_fit p.size c.args.orders.now ≡ true)
    (sym c.self.view_is) c.requires.fit)
    (subst (λ (p : Published). length p.orders + length c.args.orders.now < 2 ^ 32)
    (sym c.self.view_is) c.requires.room) in
    let ok = c.in_ok-show_change.ensures.ok in
    let is =
    published_as name _ t _ c.add.new.self
    (published_more name s c.change-more.result t c.self.inside.keeper c.args.orders.now _
    inv.1 inv.2 items can ok.0 ok.1) c.add.ensures in
    let fresh = c.change-fresh.ensures in
    let none = ap (λ (v : Vec Adoption Global). v.items) fresh.orders ∙ c.new.ensures.items in
    goes_on name t c.change-fresh.result is.exact
    (can_renew name t c.change-fresh.result c.add.new.self _ is none fresh.before
    fresh.page fresh.all)

pub invariant_of-self-2 : goal.invariant_of-self-2
invariant_of-self-2 g c =
    let name = g.J.Naming.list in
    let inv = c.self.invariant in
    let said = c.change-more.ensures in
    let s = shape_of c.self.inside.writer.desk.shown.value in
    let t = shape_of c.show_change.new.writer.desk.shown.value in
    let u = shape_of c.show_change-2.new.writer.desk.shown.value in
    let items =
    ap (λ (v : Vec Adoption Global). v.items) said.orders ∙ c.in_ok-from_slice.ensures.items in
    let can =
    can_show name s c.change-more.result c.self.inside.keeper c.args.orders.now inv.2 items
    said.before said.page said.all
    (subst (λ (p : Published). all_fit p.size c.args.orders.now ≡ true)
    (sym c.self.view_is) c.requires.fit)
    (subst (λ (p : Published). length p.orders + length c.args.orders.now < 2 ^ 32)
    (sym c.self.view_is) c.requires.room) in
    let ok = c.in_ok-show_change.ensures.ok in
    let is =
    published_as name _ t _ c.add.new.self
    (published_more name s c.change-more.result t c.self.inside.keeper c.args.orders.now _
    inv.1 inv.2 items can ok.0 ok.1) c.add.ensures in
    let fresh = c.change-fresh.ensures in
    let none = ap (λ (v : Vec Adoption Global). v.items) fresh.orders ∙ c.new.ensures.items in
    let renewed =
    can_renew name t c.change-fresh.result c.add.new.self _ is none fresh.before
    fresh.page fresh.all in
    let then : IsPublished name c.add.new.self u c.show_change-2.new.writer.desk.place.me.0.client =
    either_way c.show_change-2.result _ _
    (IsPublished name c.add.new.self u c.show_change-2.new.writer.desk.place.me.0.client)
    c.show_change-2.ensures.ok c.show_change-2.ensures.err
    (λ ok. published_as name _ u _ c.add.new.self
    (published_more name t c.change-fresh.result u c.add.new.self [] _ is.exact is.all none
    renewed ok.0 ok.1) (sym (append-nil c.add.new.self)))
    (λ err. published_same name c.add.new.self t _ u _ is err.0 err.1) in
    (c.show_change-2.ensures.none, then.exact, then.all, then.kept)
