use Rattle.std.proofs.Common.{String, sym, ◌∙◌, rules, tests, string_bytes, not}
use Rattle.std.specs.Global.{Global}
use Rattle.std.proofs.lemmas.Iterator.{YieldsList-from_slice}
use Rattle.std.proofs.lemmas.Iterator.Search.{any_from_yields_List}
use Rattle.wit_model.specs.declared.locks.Class.{Class}
use Rattle.wit_model.specs.Rules.Names.{is_name}
use Rattle.wit_known.proofs.Listing.{any-map}
use Rattle.wit_known.proofs.list_faults.has_bad_name.Goals as goal

pub returns : goal.returns
returns c =
    any_from_yields_List (λ (e : Class × String Global). not (is_name (string_bytes e.1))) _ _
    c.any.result c.any.ensures.ran (YieldsList-from_slice c.args.list.now cc)
    (λ x b q k. search (rules, tests))
    ∙ sym (any-map _ _ c.args.list.now)
