use Rattle.wit_errands.proofs.Gated.{kept-apart}
use Rattle.wit_errands.proofs.laws.law_gates_keep_apart.Goals as goal

pub returns : goal.returns
returns c = λ start first deeds v t u l a b nothing other had gate reordered mine theirs.
    kept-apart start first deeds v t u l a b nothing other had gate reordered mine theirs
