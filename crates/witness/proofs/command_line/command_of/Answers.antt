-- A word that clap gives is the only one, and one that asks for something is always given.
use Rattle.std.proofs.Common.{◌≡◌, ◌∙◌, ap, sym, codes, None, Some, option_map, map, length, arith}
use Rattle.std.proofs.lemmas.List.{length-map}
use Rattle.clap.specs.Words.{first_of, matches_of}
use Rattle.witness.specs.CommandLine.{command_line, only_word, option_named}
use Rattle.witness.proofs.OneWord.{given_is_asked, word_is_given, word_passes, unnamed_option}
use Rattle.witness.proofs.command_line.command_of.Goals as goal

pub returns-in-Ok-Some : goal.returns-in-Ok-Some
returns-in-Ok-Some g c =
    let words = map g.S.AsStr.text c.args.words.now in
    let two : length words ≡ 2 = omega (arith, length-map c.args.words.now g.S.AsStr.text) in
    let found : Some c.in-Ok-Some.word.now
    ≡ first_of (codes "word") (matches_of command_line words) =
    sym (ap (option_map (λ s. s.now)) c.in-Ok-Some.field-0-is) ∙ c.in-Ok-Some.ensures.word in
    c.named_command.ensures ∙ ap option_named
    (sym (given_is_asked words c.in-Ok-Some.word.now two found))

pub returns-in-Ok-None : goal.returns-in-Ok-None
returns-in-Ok-None g c =
    let words = map g.S.AsStr.text c.args.words.now in
    let found : None ≡ first_of (codes "word") (matches_of command_line words) =
    sym (ap (option_map (λ s. s.now)) c.in-Ok-None.field-0-is) ∙ c.in-Ok-None.ensures.word in
    unnamed_option (only_word words) (λ w what only names. let given : None
    ≡ Some w = found ∙ word_is_given words w what only names in cc)

pub returns : goal.returns
returns g c =
    let words = map g.S.AsStr.text c.args.words.now in
    unnamed_option (only_word words)
    (λ w what only names. c.in_default.not-OutOfMemory
    (c.kind.ensures ∙ c.in-Err.ensures.memory (word_passes words w what only names)))
