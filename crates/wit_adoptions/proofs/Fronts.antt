-- Beginnings of one list.
use Rattle.std.proofs.Common.{◌≡◌, ℕ, ◌<◌, ◌≤◌, List, [], ◌∷◌, ◌++◌, append_assoc, length, refl, ap}
use Rattle.std.proofs.Common.{sym, ◌∙◌, arith}
use Rattle.std.specs.Ordering.{MatchOrdering}
use mathlib.Core.List.{IsPrefix}
use Rattle.std.specs.declared.cmp.Ordering.{Ordering}
use Rattle.std.specs.declared.cmp.Ordering.TheVariants.{Less, Equal, Greater}
use Rattle.wit_adoptions.specs.Fronts.{IsShorter}

pub begins_through : {A : Type 0} (xs ys zs : List A) → IsPrefix xs ys → IsPrefix ys zs
    → IsPrefix xs zs
begins_through xs ys zs p q =
    (p.0 ++ q.0, sym (append_assoc xs p.0 q.0) ∙ (ap (λ w. w ++ q.0) p.1 ∙ q.1))

-- the one that isn't longer begins the other
begins_longer : {A : Type 0} (xs ys whole : List A) → IsPrefix xs whole → IsPrefix ys whole
    → length xs ≤ length ys → IsPrefix xs ys
begins_longer [] ys whole p q le = (ys, refl)
begins_longer (x ∷ xs) [] whole p q le = absurd (omega (arith, le))
begins_longer (x ∷ xs) (y ∷ ys) [] p q le = absurd (cc (p.1))
begins_longer (x ∷ xs) (y ∷ ys) (z ∷ whole) p q le =
    let rest = begins_longer xs ys whole (p.0, cc (p.1)) (q.0, cc (q.1)) (omega (arith, le)) in
    (rest.0, cc (p.1, q.1, rest.1))

-- two as long as one another are the same
same_length : {A : Type 0} (xs ys whole : List A) → IsPrefix xs whole → IsPrefix ys whole
    → length xs ≡ length ys → xs ≡ ys
same_length [] [] whole p q e = refl
same_length [] (y ∷ ys) whole p q e = absurd (omega (arith, e))
same_length (x ∷ xs) [] whole p q e = absurd (omega (arith, e))
same_length (x ∷ xs) (y ∷ ys) [] p q e = absurd (cc (p.1))
same_length (x ∷ xs) (y ∷ ys) (z ∷ whole) p q e =
    let rest = same_length xs ys whole (p.0, cc (p.1)) (q.0, cc (q.1)) (omega (arith, e)) in
    cc (p.1, q.1, rest)

-- so their lengths tell all
pub compared : {A : Type 0} (xs ys whole : List A) (n m : ℕ) → IsPrefix xs whole → IsPrefix ys whole
    → n ≡ length xs → m ≡ length ys
    → (r : Ordering) → MatchOrdering r (n < m) (n ≡ m) (m < n)
    → MatchOrdering r (IsShorter xs ys) (xs ≡ ys) (IsShorter ys xs)
compared xs ys whole n m p q e f Less less =
    let less' : length xs < length ys = omega (arith, e, f, less) in
    (begins_longer xs ys whole p q (omega (arith, less')), less')
compared xs ys whole n m p q e f Equal same = same_length xs ys whole p q (sym e ∙ (same ∙ f))
compared xs ys whole n m p q e f Greater less =
    let less' : length ys < length xs = omega (arith, e, f, less) in
    (begins_longer ys xs whole q p (omega (arith, less')), less')
