use Rattle.wit_gates.proofs.Ends.{ended}
use Rattle.wit_gates.proofs.word.Word.into_word.Goals as goal

pub returns : goal.returns
returns c =
    let last = c.close-closed.ensures.values.2 in
    ended last.0 _ c.word-word.result last.1 last.2 c.word-word.ensures
