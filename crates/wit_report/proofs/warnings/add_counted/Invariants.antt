use Rattle.std.proofs.Common.{◌≡◌, ◌++◌, not, filter, take}
use Rattle.wit_model.specs.declared.locks.Instance.{Instance}
use Rattle.wit_model.specs.Rules.State.{known_of}
use Rattle.wit_model.specs.Rules.Verdict.{basis_of}
use Rattle.wit_model.specs.Rules.Warnings.{is_allowed}
use Rattle.wit_report.proofs.warnings.add_counted.Given as goal

abbrev pub invariant-loop-instance : goal.invariant-loop-instance
invariant-loop-instance l =
    l.held.items
    ≡ l.initial.held.items
    ++ filter (λ (i : Instance).
    not (is_allowed (basis_of (known_of l.verifier.start l.verifier.history)) l.named l.flags
    i)) (take l.instance-index l.sleep)
