-- The command that the body builds is `command` of the specs, so its matches are those of clap's
-- definitions.
use Rattle.std.proofs.Common.{◌≡◌, ◌∙◌, ap, ap₂, rules, codes, true, Some, map}
use Rattle.std.proofs.lemmas.Result.{err_from_is_err_and}
use Rattle.clap.specs.Words.{App, app_of, first_of, found_of, is_simple, matches_of, new_app}
use Rattle.clap.specs.Words.{new_rule, rule_of, takes, with_rule}
use Rattle.clap.specs.Simple.{app_of_fields}
use Rattle.clap.specs.declared.builder.action.ArgAction.TheVariants.{Set}
use Rattle.clap.proofs.WalkLemmas.{first_value-rows}
use Rattle.witness.specs.CommandLine.{command_line}
use Rattle.witness.proofs.command_line.asked_word.Goals as goal

abbrev without_help : App → App
without_help a = record a { top = record a.top { disable_help_flag = true } }

pub returns-clause-word : goal.returns-clause-word
returns-clause-word g c =
    let word_is : rule_of c.action-word.result
    ≡ record (new_rule (codes "word")) { required = true; action = Some Set } = search rules in
    let flags_are : app_of c.disable_help_flag.result ≡ without_help (new_app (codes "witness")) =
    ap app_of_fields c.disable_help_flag.ensures ∙ ap without_help c.new-2.ensures.app in
    let command_is : app_of c.in_ok-command.command ≡ command_line =
    c.in_ok-command.ensures.shape (search rules) ∙ ap₂ with_rule flags_are word_is in
    let found : _ = (c.in_ok-matches.ensures.matches (ap is_simple command_is)).0 in
    c.get_str.ensures
    ∙ (first_value-rows (found_of c.in_ok-matches.matches) (codes "word")
    ∙ ap (first_of (codes "word"))
    (found ∙ ap (λ (a : App). matches_of a (map g.S.AsStr.text c.args.words.now)) command_is))

pub returns-in_err-matches-clause-memory : goal.returns-in_err-matches-clause-memory
returns-in_err-matches-clause-memory g c =
    let word_is : rule_of c.action-word.result
    ≡ record (new_rule (codes "word")) { required = true; action = Some Set } = search rules in
    let flags_are : app_of c.disable_help_flag.result ≡ without_help (new_app (codes "witness")) =
    ap app_of_fields c.disable_help_flag.ensures ∙ ap without_help c.new-2.ensures.app in
    let command_is : app_of c.in_ok-command.command ≡ command_line =
    c.in_ok-command.ensures.shape (search rules) ∙ ap₂ with_rule flags_are word_is in
    let error =
    err_from_is_err_and c.from_residual-in_err-matches.result
    c.from_residual-in_err-matches.ensures.1 in
    rw (error.1, error.2)
    (λ passes. c.in_err-matches.ensures.passes
    (ap (λ (a : App). takes a (map g.S.AsStr.text c.args.words.now)) command_is ∙ passes))
