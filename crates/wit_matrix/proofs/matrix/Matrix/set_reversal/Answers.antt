use Rattle.std.proofs.Common.{◌≡◌, ℕ, List, length, ap, sym, ◌∙◌, subst, arith}
use Rattle.std.specs.Vec.{with_items}
use Rattle.std.proofs.lemmas.List.{with_items_is}
use Rattle.wit_matrix.specs.Relation.{Relation, Finds}
use Rattle.wit_matrix.specs.Squares.{relation_in, AddsWhere, IsKept, is_at}
use Rattle.wit_matrix.proofs.Edits.{marked_kept, marked_finds}
use Rattle.wit_matrix.proofs.matrix.Matrix.set_reversal.Goals as goal
use Rattle.wit_model.specs.Rules.Numbers.{IsNumber}

pub invariant_of-self : goal.invariant_of-self
invariant_of-self c =
    let size : c.self.inside.size ≡ c.args.self.now.size =
    ap (λ (m : Relation). m.size) c.self.view_is in
    let at : IsNumber c.self.inside.size c.args.a.0 =
    subst (λ n. IsNumber n c.args.a.0) (sym size) c.requires.a in
    let bt : IsNumber c.self.inside.size c.args.b.0 =
    subst (λ n. IsNumber n c.args.b.0) (sym size) c.requires.b in
    let first_len : length c.add.new.words ≡ length c.self.inside.found.items =
    c.add.ensures.square ∙ sym c.self.invariant.found_square in
    let second_len : length c.add-2.new.words ≡ length c.self.inside.found.items =
    c.add-2.ensures.square ∙ sym c.self.invariant.found_square in
    let mid_is =
    with_items_is c.self.inside.found c.add.new.words
    (omega (arith, first_len, c.self.inside.found.ok.0)) in
    let last_is =
    with_items_is (with_items c.self.inside.found c.add.new.words) c.add-2.new.words
    (omega (arith, second_len, c.self.inside.found.ok.0)) in
    let first : AddsWhere c.self.inside.size (is_at c.args.a.0 c.args.b.0) c.self.inside.found.items
    c.add.new.words =
    subst (λ ws. AddsWhere c.self.inside.size (is_at c.args.a.0 c.args.b.0) ws c.add.new.words)
    c.deref_mut.ensures.value c.add.ensures.added in
    let second : AddsWhere c.self.inside.size (is_at c.args.b.0 c.args.a.0) c.add.new.words
    c.add-2.new.words =
    subst (λ ws. AddsWhere c.self.inside.size (is_at c.args.b.0 c.args.a.0) ws c.add-2.new.words)
    (c.deref_mut-2.ensures.value ∙ mid_is) c.add-2.ensures.added in
    subst (IsKept c.self.inside.size c.self.inside.direct.items c.self.inside.before.items
    c.self.inside.after.items) (sym last_is)
    (marked_kept c.self.inside.size c.self.inside.direct.items c.self.inside.before.items
    c.self.inside.after.items c.self.inside.found.items
    c.add.new.words c.add-2.new.words c.args.a c.args.b c.self.invariant at bt first second
    c.add-2.ensures.square)

pub returns : goal.returns
returns c =
    let size : c.self.inside.size ≡ c.args.self.now.size =
    ap (λ (m : Relation). m.size) c.self.view_is in
    let at : IsNumber c.self.inside.size c.args.a.0 =
    subst (λ n. IsNumber n c.args.a.0) (sym size) c.requires.a in
    let bt : IsNumber c.self.inside.size c.args.b.0 =
    subst (λ n. IsNumber n c.args.b.0) (sym size) c.requires.b in
    let first_len : length c.add.new.words ≡ length c.self.inside.found.items =
    c.add.ensures.square ∙ sym c.self.invariant.found_square in
    let second_len : length c.add-2.new.words ≡ length c.self.inside.found.items =
    c.add-2.ensures.square ∙ sym c.self.invariant.found_square in
    let mid_is =
    with_items_is c.self.inside.found c.add.new.words
    (omega (arith, first_len, c.self.inside.found.ok.0)) in
    let last_is =
    with_items_is (with_items c.self.inside.found c.add.new.words) c.add-2.new.words
    (omega (arith, second_len, c.self.inside.found.ok.0)) in
    let first : AddsWhere c.self.inside.size (is_at c.args.a.0 c.args.b.0) c.self.inside.found.items
    c.add.new.words =
    subst (λ ws. AddsWhere c.self.inside.size (is_at c.args.a.0 c.args.b.0) ws c.add.new.words)
    c.deref_mut.ensures.value c.add.ensures.added in
    let second : AddsWhere c.self.inside.size (is_at c.args.b.0 c.args.a.0) c.add.new.words
    c.add-2.new.words =
    subst (λ ws. AddsWhere c.self.inside.size (is_at c.args.b.0 c.args.a.0) ws c.add-2.new.words)
    (c.deref_mut-2.ensures.value ∙ mid_is) c.add-2.ensures.added in
    subst (λ (ws : List ℕ). Finds c.args.self.now c.args.a c.args.b
    (relation_in c.self.inside.size c.self.inside.direct.items ws)) (sym last_is)
    (subst (λ (m : Relation). Finds m c.args.a c.args.b
    (relation_in c.self.inside.size c.self.inside.direct.items c.add-2.new.words))
    c.self.view_is
    (marked_finds c.self.inside.size c.self.inside.direct.items c.self.inside.before.items
    c.self.inside.after.items c.self.inside.found.items
    c.add.new.words c.add-2.new.words c.args.a c.args.b c.self.invariant at bt first second))
