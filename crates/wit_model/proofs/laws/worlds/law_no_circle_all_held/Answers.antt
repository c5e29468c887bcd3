use Rattle.std.proofs.Common.{ap, ◌∙◌}
use Rattle.wit_model.specs.Rules.Clean.{is_clean}
use Rattle.wit_model.specs.World.Deeds.{log_of}
use Rattle.wit_model.proofs.World.NoCircle.{no_circle}
use Rattle.wit_model.proofs.laws.worlds.law_no_circle_all_held.Goals as goal

pub returns : goal.returns
returns c = λ start files v w threads profile accepted unblessed world clean reordered.
    no_circle start files unblessed v w world (ap (λ p. is_clean p (log_of w)) profile ∙ clean)
    reordered accepted threads
