use Rattle.std.proofs.Common.{◌∙◌, ap, sym, subst}
use Rattle.wit_model.specs.Rules.History.{own_entries}
use Rattle.wit_model.specs.Rules.State.{Story}
use Rattle.wit_seats.specs.declared.views.Journal.{Journal}
use Rattle.wit_seats.specs.Rule.{IsOutside}
use Rattle.wit_shared.proofs.Settling.{never_out}
use Rattle.wit_shared.proofs.desk.Desk.settle.Goals as goal

pub returns-clause-closed : goal.returns-clause-closed
returns-clause-closed g c =
    let is = c.settle_all.ensures.kept ∙ c.into_parts-verifier.ensures.keeper in
    record {
      began = c.into_parts-verifier.ensures.start;
      own = c.settle_all.ensures.left;
      others = λ n none.
          ap (λ (v : Story). own_entries n v.history) c.into_parts-verifier.ensures.verifier
          ∙ ap (λ (j : Journal). own_entries n j.entries) (sym is)
          ∙ c.look.ensures.outside n
          (subst (λ (j : Journal). IsOutside j.handed n) (sym is)
          (never_out c.args.self.handed n c.args.seats.items c.requires none));
    }
