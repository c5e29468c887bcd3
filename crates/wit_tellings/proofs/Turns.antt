-- What is made of the elements of a list, one after another.
use Rattle.std.proofs.Common.{◌≡◌, ℕ, zero, suc, ◌+◌, List, [], ◌∷◌, ◌++◌, length, take, refl, ap, sym}
use Rattle.std.proofs.Common.{◌∙◌, append_assoc, append-nil, arith}
use Rattle.std.specs.Prelude.{flat_map}
use Rattle.wit_tellings.specs.Facts.{at_place}

turn-suc : {X Y : Type 0} (f : X → List Y) (xs : List X) (n : ℕ)
    → flat_map f (take (suc n) xs) ≡ flat_map f (take n xs) ++ at_place f xs n
turn-suc f [] zero = refl
turn-suc f [] (suc n) = refl
turn-suc f (x ∷ xs) zero = append-nil (f x)
turn-suc f (x ∷ xs) (suc n) =
    ap (λ ys. f x ++ ys) (turn-suc f xs n)
    ∙ sym (append_assoc (f x) (flat_map f (take n xs)) (at_place f xs n))

-- one more was put
pub turn : {X Y : Type 0} (f : X → List Y) (xs : List X) (n : ℕ) (before after : List Y)
    → before ≡ flat_map f (take n xs) → after ≡ before ++ at_place f xs n
    → after ≡ flat_map f (take (n + 1) xs)
turn f xs n before after so more =
    more ∙ ap (λ ys. ys ++ at_place f xs n) so ∙ sym (turn-suc f xs n)
    ∙ ap (λ k. flat_map f (take k xs)) (one-more n)
  where
    one-more : (k : ℕ) → suc k ≡ k + 1
    one-more k = omega arith
