use Rattle.std.proofs.Common.{sym, ◌∙◌}
use Rattle.wit_matrix.proofs.Linked.{CanLink, still_mirrors, linked_already}
use Rattle.wit_matrix.proofs.squares.link.Goals as goal

pub returns-then-not-has-clause-mirrors : goal.returns-then-not-has-clause-mirrors
returns-then-not-has-clause-mirrors c =
    let can : CanLink c.args.n c.args.before.now c.args.after.now c.args.parent.0 c.args.child.0 =
    record {
      parent = c.requires.parent;
      child = c.requires.child;
      apart = c.requires.apart;
      orderly = c.requires.orderly;
      transitive = c.requires.transitive;
      mirrors = c.requires.mirrors;
    } in
    still_mirrors c.args.n c.args.before.now c.args.after.now c.join_rows.new.words
    c.join_rows-then-not-has.new.words c.args.parent.0 c.args.child.0 can
    c.join_rows.ensures.joined c.join_rows-then-not-has.ensures.joined

pub returns-else-not-has-clause-linked : goal.returns-else-not-has-clause-linked
returns-else-not-has-clause-linked c =
    let can : CanLink c.args.n c.args.before.now c.args.after.now c.args.parent.0 c.args.child.0 =
    record {
      parent = c.requires.parent;
      child = c.requires.child;
      apart = c.requires.apart;
      orderly = c.requires.orderly;
      transitive = c.requires.transitive;
      mirrors = c.requires.mirrors;
    } in
    linked_already c.args.n c.args.before.now c.args.after.now c.args.parent.0 c.args.child.0 can
    (sym c.has.ensures ∙ c.if-not-has.false)
