use Rattle.std.proofs.lemmas.Str.{IsUtf8-past_char}
use Rattle.std.specs.Str.Iter.{chars_rest}
use Rattle.wit_text.specs.Shown.{shown_char}
use Rattle.wit_documents.proofs.Texts.{next_char, whole_text}
use Rattle.wit_text.proofs.shown.put_shown.Goals as goal

pub loop-each-preserved : goal.loop-each-preserved
loop-each-preserved c =
    let held = c.loop-each.invariant in
    let parts = c.in-Some.ensures.steps.0 in (
      IsUtf8-past_char _ _ c.in-Some.each held.0 parts,
      rw c.in_ok-put_char.ensures
          (next_char shown_char _ _ _ _ c.in-Some.each held.1 held.0 parts),
    )

pub returns : goal.returns
returns c =
    whole_text shown_char _ _ (chars_rest c.loop-each.each-iterator) c.loop-each.invariant.1
    c.in-None.ensures.steps.0.0
