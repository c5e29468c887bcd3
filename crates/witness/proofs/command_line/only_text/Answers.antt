use Rattle.std.proofs.Common.{sym, subst, IsUtf8}
use Rattle.witness.proofs.OneWord.{none_of_error, unasked, unnamed_bytes}
use Rattle.witness.proofs.command_line.only_text.Goals as goal

pub returns-in-len1-clause-none : goal.returns-in-len1-clause-none
returns-in-len1-clause-none c =
    none_of_error _ _ _ c.from_utf8.result c.ok.result c.ok.ensures.value c.from_utf8.ensures.cases
    (λ e why. unasked c.args.words.now c.word-item.result c.word-item.is
    (unnamed_bytes c.word-item.result.items
    (λ text. why.0 (subst IsUtf8 (sym c.as_slice.ensures.value) text))))
