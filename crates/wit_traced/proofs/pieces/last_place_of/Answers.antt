use Rattle.memchr.specs.Find.{is_byte}
use Rattle.memchr.proofs.lemmas.ValueLemmas.{IsLastByte-value}
use Rattle.wit_traced.proofs.Places.{last-within}
use Rattle.wit_traced.proofs.pieces.last_place_of.Goals as goal

pub returns-clause-place : goal.returns-clause-place
returns-clause-place c =
    IsLastByte-value (is_byte c.args.byte) c.args.bytes.now c.memrchr.result c.memrchr.ensures

pub returns-clause-within : goal.returns-clause-within
returns-clause-within c =
    last-within (is_byte c.args.byte) c.args.bytes.now c.memrchr.result c.memrchr.ensures
