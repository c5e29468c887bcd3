use Rattle.std.proofs.Common.{◌∙◌, ap}
use Rattle.wit_model.specs.Rules.State.{Story}
use Rattle.wit_core.proofs.Entries.Naming.{recent_again}
use Rattle.wit_core.proofs.verifier.Verifier.recent_file.Goals as goal

pub returns-clause-number : goal.returns-clause-number
returns-clause-number c =
    recent_again c.args.self.now c.names.result.now c.recent_file.result
    (c.names.ensures.files ∙ ap (λ (s : Story). s.files) c.self.view_is) c.recent_file.ensures
