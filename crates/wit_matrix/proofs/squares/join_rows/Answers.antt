use Rattle.std.proofs.Common.{not, ◌+◌, sym, ◌∙◌, subst, arith}
use Rattle.std.proofs.lemmas.Bool.{and_parts}
use Rattle.wit_matrix.specs.Squares.{IsSquare, has, reaches}
use Rattle.wit_matrix.proofs.Joins.{RowsBelow, rows_until, rows_more, rows_left, rows_end}
use Rattle.wit_matrix.proofs.squares.join_rows.Goals.{then-is_to_join, else-is_to_join}
use Rattle.wit_matrix.proofs.squares.join_rows.Goals as goal
use Rattle.wit_model.specs.Rules.Numbers.{IsNumber}

pub loop-row-preserved : goal.loop-row-preserved
loop-row-preserved c =
    let here : IsNumber c.args.n c.next_row-next.result =
    (omega (arith, c.loop-row.invariant.positive, c.next_row-next.ensures.onward), omega arith) in
    let below : RowsBelow c.args.n c.args.mirror.now c.args.first.0 c.args.source.0
    c.next_row-next.result c.args.words.now c.loop-row.words =
    rows_until c.args.n c.args.mirror.now c.args.first.0 c.args.source.0 c.loop-row.row
    c.next_row-next.result c.args.words.now c.loop-row.words c.next_row-next.ensures.onward
    c.loop-row.invariant.joined c.next_row-next.ensures.none in
    let both : IsSquare c.args.n c.if-is_to_join.words
    × RowsBelow c.args.n c.args.mirror.now c.args.first.0 c.args.source.0
    (c.next_row-next.result + 1) c.args.words.now c.if-is_to_join.words =
    elim c.if-is_to_join.branch [
      | then-is_to_join w ↦ subst
          (λ words. IsSquare c.args.n words
          × RowsBelow c.args.n c.args.mirror.now c.args.first.0 c.args.source.0
          (c.next_row-next.result + 1) c.args.words.now words)
          (sym w.words-is) (
            w.join_row.ensures.square,
            rows_more c.args.n c.args.mirror.now c.args.first.0 c.args.source.0
                c.next_row-next.result c.args.words.now c.loop-row.words w.join_row.new.words
                c.requires.source c.requires.apart below
                (and_parts (reaches c.args.n c.args.mirror.now c.args.first.0
                c.next_row-next.result) (not
                (has c.args.n c.loop-row.words c.next_row-next.result c.args.source.0))
                (sym c.is_to_join.ensures ∙ w.if-is_to_join.true)).0
                w.join_row.ensures.joined,
          )
      | else-is_to_join w ↦ subst
          (λ words. IsSquare c.args.n words
          × RowsBelow c.args.n c.args.mirror.now c.args.first.0 c.args.source.0
          (c.next_row-next.result + 1) c.args.words.now words)
          (sym w.words-is) (
            c.loop-row.invariant.square,
            rows_left c.args.n c.args.mirror.now c.args.first.0 c.args.source.0
                c.next_row-next.result c.args.words.now c.loop-row.words
                c.requires.source here c.requires.transitive below
                (sym c.is_to_join.ensures ∙ w.if-is_to_join.false),
          )
    ] in
    record { positive = omega arith; square = both.0; joined = both.1 }

pub returns-then-next-n-clause-joined : goal.returns-then-next-n-clause-joined
returns-then-next-n-clause-joined c =
    rows_end c.args.n c.args.mirror.now c.args.first.0 c.args.source.0 c.next_row-next.result
    c.args.words.now c.loop-row.words (omega arith)
    (rows_until c.args.n c.args.mirror.now c.args.first.0 c.args.source.0 c.loop-row.row
    c.next_row-next.result c.args.words.now c.loop-row.words c.next_row-next.ensures.onward
    c.loop-row.invariant.joined c.next_row-next.ensures.none)

pub returns-clause-joined : goal.returns-clause-joined
returns-clause-joined c =
    rows_end c.args.n c.args.mirror.now c.args.first.0 c.args.source.0 c.loop-row.row
    c.args.words.now c.loop-row.words (omega arith) c.loop-row.invariant.joined
