use Rattle.std.proofs.Common.{get_or, ap, ◌∙◌, arith}
use Rattle.std.proofs.lemmas.List.{length-set}
use Rattle.wit_matrix.proofs.Words.{united_more, united_end}
use Rattle.wit_matrix.proofs.squares.unite.Goals as goal

pub loop-word-preserved : goal.loop-word-preserved
loop-word-preserved c = (
  length-set c.loop-word.words _ _ ∙ c.loop-word.invariant.0,
  united_more c.args.n c.args.row.0 c.args.source.0 c.loop-word.word c.args.words.now
      c.loop-word.words c.loop-word.invariant.0 c.requires.row c.requires.source
      (omega (arith, c.width-word-end.ensures.value)) c.requires.apart c.loop-word.invariant.1
      c.place-in-loop-word.result (get_or c.loop-word.words c.place-in-loop-word.result 0)
      (get_or c.loop-word.words c.place.result 0) c.place-in-loop-word.ensures.value
      (ap (λ p. get_or c.loop-word.words p 0) c.place-in-loop-word.ensures.value)
      (ap (λ p. get_or c.loop-word.words p 0) c.place.ensures.value),
)

pub returns-clause-united : goal.returns-clause-united
returns-clause-united c =
    united_end c.args.n c.args.row.0 c.args.source.0 c.loop-word.word c.args.words.now
    c.loop-word.words (omega (arith, c.width-word-end.ensures.value)) c.loop-word.invariant.1
