use Rattle.std.proofs.Common.{◌∙◌, IfSome, refl, subst}
use Rattle.wit_model.specs.declared.lines.Line.TheVariants.{OnLock}
use Rattle.wit_model.specs.declared.lines.LockLine.TheVariants.{Check}
use Rattle.wit_fields.specs.Fields.{IsKnownAs}
use Rattle.wit_lines.proofs.KnownFiles.{known_named}
use Rattle.wit_lines.proofs.frequent_lines.check_line.Goals as goal

pub read_call-requires-clause-found : goal.read_call-requires-clause-found
read_call-requires-clause-found g c =
    let x = c.in-Some.fields in
    let known = c.recent_file.result in
    record {
      line = OnLock (Check x.seat x.lock x.mode x.ops x.file.now x.line);
      found = c.requires.begun ∙ c.in-Some.ensures.read;
      file = c.in-Some-number.file;
      numbered =
          known_named (g.R.LineReader.names c.args.reader.now) known x.file.now
          c.in-Some-number.file c.recent_file.ensures.number
          (subst (λ o. IfSome o (IsKnownAs known x.file.now)) c.in-Some-number.is
          c.in-Some.ensures.known);
      is = refl;
    }
