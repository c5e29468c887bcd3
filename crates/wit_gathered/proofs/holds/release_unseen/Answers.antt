use Rattle.std.proofs.Common.{not, rules}
use Rattle.std.proofs.lemmas.Fn.{filter_same}
use Rattle.wit_gathered.specs.declared.holds.Hold.{Hold}
use Rattle.wit_gathered.specs.Holds.{is_others}
use Rattle.wit_gathered.proofs.holds.release_unseen.Goals as goal

pub returns : goal.returns
returns c =
    filter_same _ (λ (h : Hold). not (is_others c.args.context c.args.lock h)) _
    (λ x b f' k. search rules) _ _ c.retain.ensures.filtered
