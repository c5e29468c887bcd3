use Rattle.std.proofs.Common.{◌∙◌, refl}
use Rattle.wit_model.specs.declared.lines.Line.TheVariants.{OnLock}
use Rattle.wit_model.specs.declared.lines.LockLine.TheVariants.{Plain}
use Rattle.wit_model.specs.declared.lines.Verb.TheVariants.{Note}
use Rattle.wit_lines.proofs.frequent_lines.note_line.Goals as goal

pub read_call-requires-clause-found : goal.read_call-requires-clause-found
read_call-requires-clause-found g c = record {
  line = OnLock (Plain Note c.in-Some.seat c.in-Some.lock);
  found = c.requires.begun ∙ c.in-Some.ensures;
  file = record { 0 = 0 };
  numbered = tt;
  is = refl;
}
