use Rattle.std.proofs.Common.{refl, ap, ◌∙◌, arith}
use Rattle.wit_condensed.specs.Lines.{line_of}
use Rattle.wit_condensed.proofs.Putting.{no_link, put_more, put_same, put_all, rest_same}
use Rattle.wit_condensed.proofs.lines.put_lines.Goals as goal
use Rattle.wit_condensed.proofs.lines.put_lines.Goals.{then-not-link, else-not-link}

pub links-init : goal.links-init
links-init c = record { within = omega arith; counted = refl; put = refl }

pub offset_bounds-lines-count : goal.offset_bounds-lines-count
offset_bounds-lines-count c = omega arith

pub bounds-lines-count : goal.bounds-lines-count
bounds-lines-count c = omega arith

pub links-preserved : goal.links-preserved
links-preserved c = elim c.if-not-link.branch [
  | then-not-link w ↦
      rw (w.count-is, w.lines-is)
      (put_more c.args.links.now c.args.lines.now c.links.i c.links.count c.links.lines no_link
      c.links.invariant c.links-test.true w.of.result c.requires.room w.if-not-link.true
      (w.of.ensures ∙ ap (line_of c.links.i) w.link_kind.ensures))
  | else-not-link w ↦
      rw (w.count-is, w.lines-is)
      (put_same c.args.links.now c.args.lines.now c.links.i c.links.count c.links.lines no_link
      c.links.invariant c.links-test.true w.if-not-link.false)
]

pub returns-clause-put : goal.returns-clause-put
returns-clause-put c =
    put_all c.args.links.now c.args.lines.now c.links.i c.links.count c.links.lines c.of-2.result
    c.links.invariant c.links-test.false (omega arith) c.of-2.ensures

pub returns-clause-rest : goal.returns-clause-rest
returns-clause-rest c =
    rest_same c.args.links.now c.args.lines.now c.links.i c.links.count c.links.lines c.of-2.result
    c.links.invariant c.links-test.false (omega arith) c.of-2.ensures
