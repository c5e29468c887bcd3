use Rattle.std.proofs.Common.{String, sym, ◌∙◌, rules, tests, string_bytes, ◌&&◌, not}
use Rattle.std.specs.Global.{Global}
use Rattle.std.specs.Str.{bytes_eq}
use Rattle.std.proofs.lemmas.Iterator.{YieldsList-from_slice}
use Rattle.std.proofs.lemmas.Iterator.Search.{any_from_yields_List}
use Rattle.wit_model.specs.declared.locks.Class.{Class}
use Rattle.wit_model.specs.Rules.Types.{is_same_class}
use Rattle.wit_known.proofs.Listing.{any-map}
use Rattle.wit_known.proofs.list_faults.is_listed_otherwise.Goals as goal

pub returns : goal.returns
returns c =
    any_from_yields_List (λ (e : Class × String Global). bytes_eq (string_bytes e.1) c.args.name.now
    && not (is_same_class e.0 c.args.class)) _ _ c.any.result c.any.ensures.ran
    (YieldsList-from_slice c.args.list.now cc) (λ x b q k. search (rules, tests))
    ∙ sym (any-map _ _ c.args.list.now)
