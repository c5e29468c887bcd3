use Rattle.wit_matrix.specs.Squares.{IsSquare}
use Rattle.wit_matrix.proofs.Words.{UnitedBelow}
use Rattle.wit_matrix.proofs.squares.unite.Given as goal

abbrev pub invariant-loop-word : goal.invariant-loop-word
invariant-loop-word l =
    IsSquare l.n l.words × UnitedBelow l.n l.row.0 l.source.0 l.word l.initial.words l.words
