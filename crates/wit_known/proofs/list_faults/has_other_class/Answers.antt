use Rattle.std.proofs.Common.{String, sym, ◌∙◌, rules, tests}
use Rattle.std.specs.Global.{Global}
use Rattle.std.proofs.lemmas.Iterator.{YieldsList-from_slice}
use Rattle.std.proofs.lemmas.Iterator.Search.{any_from_yields_List}
use Rattle.wit_model.specs.declared.locks.Class.{Class}
use Rattle.wit_model.specs.Rules.Start.{is_misclassed}
use Rattle.wit_known.specs.Listed.{entry_of, listed}
use Rattle.wit_known.proofs.Listing.{any-map}
use Rattle.wit_known.proofs.list_faults.has_other_class.Goals as goal

pub returns : goal.returns
returns c =
    any_from_yields_List (λ (e : Class × String Global). is_misclassed c.args.names.now.types
    (listed c.args.list.now) (entry_of e)) _ _ c.any.result c.any.ensures.ran
    (YieldsList-from_slice c.args.list.now cc) (λ x b q k. search (rules, tests))
    ∙ sym (any-map _ _ c.args.list.now)
