use Rattle.std.proofs.Common.{◌&&◌, ap, sym, ◌∙◌}
use Rattle.std.specs.List.{list_any}
use Rattle.wit_alarms.specs.Facts.{may_begin}
use Rattle.wit_alarms.proofs.Paths.{open_closes}
use Rattle.wit_alarms.proofs.search.Search.closes.Goals as goal

pub returns-else-leads_to : goal.returns-else-leads_to
returns-else-leads_to c =
    c.if-leads_to.false
    ∙ sym (open_closes c.args.self.now.why c.args.self.now.lives.now c.args.self.now.facts.now
    c.args.path.now c.in-Some.field-0.now c.requires c.in-Some.ensures.value
    ∙ ap (λ b. b && list_any (may_begin c.args.self.now.why c.args.self.now.facts.now)
    c.args.path.now) (sym c.leads_to.ensures ∙ c.if-leads_to.false))
