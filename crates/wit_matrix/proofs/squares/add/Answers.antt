use Rattle.std.proofs.Common.{get_or, ap}
use Rattle.wit_matrix.proofs.Words.{bit_added_at}
use Rattle.wit_matrix.proofs.squares.add.Goals as goal

pub returns-clause-added : goal.returns-clause-added
returns-clause-added c =
    bit_added_at c.args.n c.args.row.0 c.args.column.0 c.args.words.now c.requires.square
    c.requires.row c.requires.column c.place.result
    (get_or c.args.words.now c.place.result 0) c.mask.result c.place.ensures.value
    (ap (λ p. get_or c.args.words.now p 0) c.place.ensures.value) c.mask.ensures
