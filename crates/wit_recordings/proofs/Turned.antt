-- A test of each element passes a list turned round where it passes the list.
use Rattle.std.proofs.Common.{◌≡◌, Bool, true, false, ◌&&◌, List, [], ◌∷◌, reverse, refl, ap}
use Rattle.std.proofs.Common.{◌∙◌}
use Rattle.std.specs.List.{list_all}
use Rattle.std.proofs.lemmas.List.{reverse-append}
use Rattle.std.proofs.lemmas.List.Folds.{list_all-append}

turn : (a b : Bool) → (a && (b && true)) ≡ (b && a)
turn true true = refl
turn true false = refl
turn false true = refl
turn false false = refl

pub list_all-reverse : {X : Type 0} (p : X → Bool) (xs : List X)
    → list_all p (reverse xs) ≡ list_all p xs
list_all-reverse p [] = refl
list_all-reverse p (x ∷ xs) =
    ap (list_all p) (reverse-append (x ∷ []) xs)
    ∙ (list_all-append p (reverse xs) (x ∷ [])
    ∙ (ap (λ b. b && (p x && true)) (list_all-reverse p xs) ∙ turn (list_all p xs) (p x)))
