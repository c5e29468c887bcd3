use Rattle.std.proofs.Common.{◌≡◌, sym, ◌∙◌}
use Rattle.acyclic.proofs.NoCircle.{no-circle_at_0}
use Rattle.acyclic.proofs.program.run.Goals as goal

pub returns-clause-acyclic : goal.returns-clause-acyclic
returns-clause-acyclic g c = λ is.
    let zero : c.status_of-status.result ≡ 0 = cc in
    no-circle_at_0 _ _ _ c.check_through_buffer-outcome.result
    c.check_through_buffer-outcome.ensures.ok (sym c.status_of-status.ensures ∙ zero)
