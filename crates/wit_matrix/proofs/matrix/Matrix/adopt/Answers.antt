use Rattle.std.proofs.Common.{◌≡◌, ℕ, false, List, length, ap, sym, ◌∙◌, subst, arith}
use Rattle.std.proofs.lemmas.List.{with_items_is}
use Rattle.wit_model.specs.Rules.Orders.{is_before}
use Rattle.wit_model.specs.Rules.Numbers.{IsNumber}
use Rattle.wit_matrix.specs.Relation.{Relation, Adopts}
use Rattle.wit_matrix.specs.Squares.{relation_in, AddsWhere, IsTransitive, is_at, links}
use Rattle.wit_matrix.proofs.Edits.{CanAdopt, Links, kept_transitive, adopted_kept, adopted_adopts}
use Rattle.wit_matrix.proofs.Edits.{kept_as}
use Rattle.wit_matrix.proofs.matrix.Matrix.adopt.Goals as goal

pub link-requires-clause-transitive : goal.link-requires-clause-transitive
link-requires-clause-transitive c =
    subst (IsTransitive c.self.inside.size) (sym c.deref_mut.ensures.value)
    (kept_transitive c.self.inside.size c.self.inside.direct.items c.self.inside.before.items
    c.self.inside.after.items c.self.inside.found.items c.self.invariant)

pub invariant_of-self : goal.invariant_of-self
invariant_of-self c =
    let size : c.self.inside.size ≡ c.args.self.now.size =
    ap (λ (m : Relation). m.size) c.self.view_is in
    let can : CanAdopt c.self.inside.size c.self.inside.direct.items c.self.inside.before.items
    c.self.inside.after.items c.self.inside.found.items c.args.parent.0 c.args.child.0 =
    record {
      kept = c.self.invariant;
      parent = subst (λ n. IsNumber n c.args.parent.0) (sym size) c.requires.parent;
      child = subst (λ n. IsNumber n c.args.child.0) (sym size) c.requires.child;
      apart = c.requires.apart;
      orderly =
          subst (λ (m : Relation). is_before m.orders c.args.child.0 c.args.parent.0 ≡ false)
          (sym c.self.view_is) c.requires.orderly;
    } in
    let made : Links c.self.inside.size c.self.inside.direct.items c.self.inside.before.items
    c.self.inside.after.items c.add.new.words c.link.new.before c.link.new.after
    c.args.parent.0 c.args.child.0 =
    record {
      linked =
          subst (λ ws. AddsWhere c.self.inside.size
          (links c.self.inside.size ws c.args.parent.0 c.args.child.0) ws c.link.new.before)
          c.deref_mut.ensures.value c.link.ensures.linked;
      mirrors = c.link.ensures.mirrors;
      adopted =
          subst (λ ws. AddsWhere c.self.inside.size (is_at c.args.parent.0 c.args.child.0) ws
          c.add.new.words) c.deref_mut-then-not-direct-2.ensures.value c.add.ensures.added;
      direct_square = c.add.ensures.square;
      before_square = c.link.ensures.square;
      after_square = c.link.ensures.mirror_square;
    } in
    let direct_len : length c.add.new.words ≡ length c.self.inside.direct.items =
    c.add.ensures.square ∙ sym c.self.invariant.direct_square in
    let direct_is =
    with_items_is c.self.inside.direct c.add.new.words
    (omega (arith, direct_len, c.self.inside.direct.ok.0)) in
    let before_len : length c.link.new.before ≡ length c.self.inside.before.items =
    c.link.ensures.square ∙ sym c.self.invariant.before_square in
    let after_len : length c.link.new.after ≡ length c.self.inside.after.items =
    c.link.ensures.mirror_square ∙ sym c.self.invariant.after_square in
    kept_as c.self.inside.size _ _ _ c.self.inside.found.items _ _ _ direct_is
    (with_items_is c.self.inside.before c.link.new.before
    (omega (arith, before_len, c.self.inside.before.ok.0)))
    (with_items_is c.self.inside.after c.link.new.after
    (omega (arith, after_len, c.self.inside.after.ok.0)))
    (adopted_kept c.self.inside.size c.self.inside.direct.items c.self.inside.before.items
    c.self.inside.after.items c.self.inside.found.items
    c.add.new.words c.link.new.before c.link.new.after c.args.parent.0 c.args.child.0 can made)

pub returns-then-not-direct-clause-adopted : goal.returns-then-not-direct-clause-adopted
returns-then-not-direct-clause-adopted c =
    let size : c.self.inside.size ≡ c.args.self.now.size =
    ap (λ (m : Relation). m.size) c.self.view_is in
    let can : CanAdopt c.self.inside.size c.self.inside.direct.items c.self.inside.before.items
    c.self.inside.after.items c.self.inside.found.items c.args.parent.0 c.args.child.0 =
    record {
      kept = c.self.invariant;
      parent = subst (λ n. IsNumber n c.args.parent.0) (sym size) c.requires.parent;
      child = subst (λ n. IsNumber n c.args.child.0) (sym size) c.requires.child;
      apart = c.requires.apart;
      orderly =
          subst (λ (m : Relation). is_before m.orders c.args.child.0 c.args.parent.0 ≡ false)
          (sym c.self.view_is) c.requires.orderly;
    } in
    let made : Links c.self.inside.size c.self.inside.direct.items c.self.inside.before.items
    c.self.inside.after.items c.add.new.words c.link.new.before c.link.new.after
    c.args.parent.0 c.args.child.0 =
    record {
      linked =
          subst (λ ws. AddsWhere c.self.inside.size
          (links c.self.inside.size ws c.args.parent.0 c.args.child.0) ws c.link.new.before)
          c.deref_mut.ensures.value c.link.ensures.linked;
      mirrors = c.link.ensures.mirrors;
      adopted =
          subst (λ ws. AddsWhere c.self.inside.size (is_at c.args.parent.0 c.args.child.0) ws
          c.add.new.words) c.deref_mut-then-not-direct-2.ensures.value c.add.ensures.added;
      direct_square = c.add.ensures.square;
      before_square = c.link.ensures.square;
      after_square = c.link.ensures.mirror_square;
    } in
    let direct_len : length c.add.new.words ≡ length c.self.inside.direct.items =
    c.add.ensures.square ∙ sym c.self.invariant.direct_square in
    let direct_is =
    with_items_is c.self.inside.direct c.add.new.words
    (omega (arith, direct_len, c.self.inside.direct.ok.0)) in
    subst (λ (ws : List ℕ). Adopts c.args.self.now c.args.parent.0 c.args.child.0
    (relation_in c.self.inside.size ws c.self.inside.found.items)) (sym direct_is)
    (subst (λ (m : Relation). Adopts m c.args.parent.0 c.args.child.0
    (relation_in c.self.inside.size c.add.new.words c.self.inside.found.items)) c.self.view_is
    (adopted_adopts c.self.inside.size c.self.inside.direct.items c.self.inside.before.items
    c.self.inside.after.items c.self.inside.found.items
    c.add.new.words c.link.new.before c.link.new.after c.args.parent.0 c.args.child.0 can made))
