use Rattle.std.proofs.Common.{◌+◌, ◌-◌, ◌*◌, ◌<◌, sym, subst}
use Rattle.wit_matrix.specs.Squares.{width}
use Rattle.wit_matrix.proofs.Places.{place_within}
use Rattle.wit_matrix.proofs.squares.place.Goals as goal

pub returns-clause-within : goal.returns-clause-within
returns-clause-within c =
    subst (λ w. (c.args.row.0 - 1) * w + c.args.word < c.args.n * width c.args.n)
    (sym c.width.ensures.value)
    (place_within c.args.n c.args.row.0 c.args.word c.requires.row c.requires.word)
