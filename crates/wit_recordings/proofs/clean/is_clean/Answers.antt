use Rattle.std.proofs.Common.{sym, ◌∙◌, rules, tests}
use Rattle.std.proofs.lemmas.Iterator.{YieldsList-from_slice}
use Rattle.std.proofs.lemmas.Iterator.Search.{all_from_yields_List}
use Rattle.wit_model.specs.Rules.Clean.{is_clean_entry}
use Rattle.wit_recordings.proofs.Turned.{list_all-reverse}
use Rattle.wit_recordings.proofs.clean.is_clean.Goals as goal

pub returns : goal.returns
returns c =
    all_from_yields_List (is_clean_entry c.args.profile) _ _ c.all.result c.all.ensures.ran
    (YieldsList-from_slice c.args.log.now cc) (λ x b q k. search (rules, tests))
    ∙ sym (list_all-reverse (is_clean_entry c.args.profile) c.args.log.now)
