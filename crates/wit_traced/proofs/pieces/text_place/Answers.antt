use Rattle.memchr.proofs.lemmas.ValueLemmas.{FindsNeedle-value}
use Rattle.wit_traced.proofs.Places.{text-within}
use Rattle.wit_traced.proofs.pieces.text_place.Goals as goal

pub returns-clause-place : goal.returns-clause-place
returns-clause-place c =
    FindsNeedle-value c.args.bytes.now c.args.text.now c.find.result c.find.ensures

pub returns-clause-within : goal.returns-clause-within
returns-clause-within c =
    text-within c.args.bytes.now c.args.text.now c.find.result c.find.ensures
