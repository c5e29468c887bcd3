use Rattle.std.proofs.Common.{◌++◌, ap, sym}
use Rattle.wit_seats.specs.declared.views.Journal.{Journal}
use Rattle.wit_shared.proofs.opening.shared.Goals as goal

-- the first files are all new to the keeper
pub look-requires-clause-longer : goal.look-requires-clause-longer
look-requires-clause-longer g c = (
  c.args.verifier.files,
  ap (λ (j : Journal). j.files ++ c.args.verifier.files)
      (sym c.named-keeper.ensures),
)
