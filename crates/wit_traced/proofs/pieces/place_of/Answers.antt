use Rattle.memchr.specs.Find.{is_byte}
use Rattle.memchr.proofs.lemmas.ValueLemmas.{IsFirstByte-value}
use Rattle.wit_traced.proofs.Places.{first-within}
use Rattle.wit_traced.proofs.pieces.place_of.Goals as goal

pub returns-clause-place : goal.returns-clause-place
returns-clause-place c =
    IsFirstByte-value (is_byte c.args.byte) c.args.bytes.now c.memchr.result c.memchr.ensures

pub returns-clause-within : goal.returns-clause-within
returns-clause-within c =
    first-within (is_byte c.args.byte) c.args.bytes.now c.memchr.result c.memchr.ensures
