-- Files that are named stay named.
use Rattle.std.proofs.Common.{ℕ, List, [], ◌∷◌, ◌++◌}
use Rattle.wit_model.specs.declared.locks.FileNo.{FileNo}
use Rattle.wit_model.proofs.Histories.Longer.{number-stays}
use Rattle.wit_seats.specs.Seats.{AreFiles}

pub files_more : (files more : List (List ℕ)) (given : List (FileNo × List ℕ))
    → AreFiles files given → AreFiles (files ++ more) given
files_more files more [] h = tt
files_more files more (g ∷ gs) h =
    (number-stays files more g.0.0 g.1 h.0, files_more files more gs h.1)

pub files_both : (files : List (List ℕ)) (first second : List (FileNo × List ℕ))
    → AreFiles files first → AreFiles files second → AreFiles files (first ++ second)
files_both files [] second h k = k
files_both files (g ∷ gs) second h k = (h.0, files_both files gs second h.1 k)
