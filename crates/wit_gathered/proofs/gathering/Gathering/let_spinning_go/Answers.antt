use Rattle.std.proofs.Common.{◌&&◌, ap, not, rules}
use Rattle.std.proofs.lemmas.Fn.{filter_same}
use Rattle.wit_gathered.specs.declared.holds.Hold.{Hold}
use Rattle.wit_gathered.specs.Gathering.{gathered}
use Rattle.wit_gathered.specs.Holds.{same_context}
use Rattle.wit_gathered.specs.Types.{is_spinning}
use Rattle.wit_gathered.proofs.gathering.Gathering.let_spinning_go.Goals as goal

pub returns : goal.returns
returns c =
    let g = gathered c.args.self.now in
    ap (λ l. record g { held = l })
    (filter_same _
    (λ (h : Hold). not (same_context h.context c.args.context && is_spinning g.known h.step.of)) _
    (λ x b f' k. search rules) _ _ c.retain.ensures.filtered)
