-- A search from the end for the byte that parts.
use Rattle.std.proofs.Common.{◌≡◌, ℕ, suc, ◌+◌, ◌-◌, ◌<◌, ◌≤◌, List, ◌∷◌, ◌++◌, length, get_or}
use Rattle.std.proofs.Common.{take, drop, Some, None, sym, ap, ◌∙◌, arith}
use Rattle.std.proofs.lemmas.List.{take-append-drop, take_all, length-drop}
use Rattle.std.proofs.Math.Seq.{drop-cons}
use Rattle.wit_model.specs.Trace.Reading.{parted_at_last}
use Rattle.wit_model.proofs.Spelling.Sites.{parted_here}

-- the bytes from a place on are the byte there, and the others
from_place : (word : List ℕ) (i : ℕ) → 0 < i → i ≤ length word
    → drop (i - 1) word ≡ get_or word (i - 1) 0 ∷ drop i word
from_place word i some within = let e : suc (i - 1) ≡ i = omega arith in
    drop-cons word (i - 1) 0 (omega arith) ∙ ap (λ (k : ℕ). get_or word (i - 1) 0 ∷ drop k word) e

pub parts_at : (byte : ℕ) (word : List ℕ) (i : ℕ) → 0 < i → i ≤ length word
    → get_or word (i - 1) 0 ≡ byte → parted_at_last byte (drop i word) ≡ None
    → parted_at_last byte word ≡ Some
    (take (i - 1) word, take (length word - (i - 1 + 1)) (drop (i - 1 + 1) word))
parts_at byte word i some within here none =
    let e : i - 1 + 1 ≡ i = omega arith in
    let whole : word ≡ take (i - 1) word ++ byte ∷ drop i word =
    sym (take-append-drop (i - 1) word) ∙ ap (λ (w : List ℕ). take (i - 1) word ++ w)
    (from_place word i some within ∙ ap (λ (b : ℕ). b ∷ drop i word) here) in
    let back : take (length word - (i - 1 + 1)) (drop (i - 1 + 1) word) ≡ drop i word =
    rw e (take_all (length word - i) (drop i word) (omega (arith, length-drop i word))) in
    ap (parted_at_last byte) whole ∙ parted_here byte (take (i - 1) word) (drop i word) none
    ∙ ap (λ (w : List ℕ). Some (take (i - 1) word, w)) (sym back)
