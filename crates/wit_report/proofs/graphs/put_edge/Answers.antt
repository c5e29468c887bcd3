use Rattle.std.proofs.Common.{string_bytes, arith}
use Rattle.wit_model.specs.Rules.State.{known_of}
use Rattle.wit_report.proofs.ViewLines.{edge-written}
use Rattle.wit_report.proofs.graphs.put_edge.Goals as goal

pub returns : goal.returns
returns c =
    let v = c.args.verifier.now in
    edge-written (string_bytes c.args.text.now) (known_of v.start v.history) c.args.parent.0
    c.args.child.0
    (rw c.type_words.ensures at c.in_ok-put_quoted.ensures)
    (rw (c.push.ensures.ascii (omega arith)) at c.in_ok-push.ensures.bytes)
    (rw c.type_words-2.ensures at c.in_ok-put_quoted-2.ensures)
    (rw (c.push-2.ensures.ascii (omega arith)) at c.in_ok-push-2.ensures.bytes)
