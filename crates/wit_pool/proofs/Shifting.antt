-- One item of the first ones goes out, and the later ones move down.
use Rattle.std.proofs.Common.{◌≡◌, ℕ, suc, ◌+◌, ◌-◌, ◌<◌, ◌≤◌, List, ◌++◌, length, take, drop, ap}
use Rattle.std.proofs.Common.{sym, ◌∙◌, arith}
use Rattle.std.specs.List.{remove, copy_within}
use Rattle.std.proofs.lemmas.List.{length-drop, take-take, drop-take}
use Rattle.std.proofs.lemmas.List.Edits.{take-paste}

pub moved-down : {X : Type 0} (xs : List X) (n i : ℕ) → i < n → n ≤ length xs
    → take (n - 1) (copy_within xs (i + 1) n i) ≡ remove (take n xs) i
moved-down xs n i lt le =
    let later : ℕ = n - (i + 1) in
    let less : n - 1 ≡ i + later = omega (arith, lt) in
    let whole : n ≡ suc i + later = omega (arith, lt) in
    let next : i + 1 ≡ suc i = omega arith in
    ap (λ k. take k (copy_within xs (i + 1) n i)) less
    ∙ take-paste xs i (drop (i + 1) xs) later (omega (arith, lt, le))
    (omega (arith, le, length-drop (i + 1) xs))
    ∙ ap (λ k. take i xs ++ take later (drop k xs)) next
    ∙ ap (λ ys. take i xs ++ ys)
    (sym (ap (λ k. drop (suc i) (take k xs)) whole ∙ drop-take (suc i) later xs))
    ∙ ap (λ ys. ys ++ drop (suc i) (take n xs)) (sym (take-take i n xs (omega (arith, lt))))
