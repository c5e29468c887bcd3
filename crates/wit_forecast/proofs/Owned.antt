-- One list of own lines begins another.
use Rattle.std.proofs.Common.{◌≡◌, ℕ, ◌-◌, ◌<◌, ◌≤◌, List, [], ◌∷◌, true, length, take, drop}
use Rattle.std.proofs.Common.{get_or, refl, ap, ap₂, ◌∙◌, sym, subst}
use Rattle.std.proofs.lemmas.List.{take_all}
use Rattle.std.proofs.Common.{◌+◌, Bool, false, nat_lt, arith}
use Rattle.std.proofs.lemmas.Bool.{ltb-true, ltb-false}
use Rattle.std.specs.Global.{Vec}
use Rattle.wit_forecast.specs.Owners.{lines_in, goes_on, going_on, Begins}

pub begins_none : (field : List ℕ) (chosen : List (Vec ℕ)) (all : List (List ℕ))
    → length chosen < 1 → Begins (going_on field (lines_in chosen)) all
begins_none field [] all few = (all, refl)
begins_none field (line ∷ others) all few = absurd (omega (arith, few))

pub begins_more : (field : List ℕ) (line : Vec ℕ) (others : List (Vec ℕ))
    (all rest : List (List ℕ)) → goes_on field line.items ≡ true → all ≡ line.items ∷ rest
    → Begins (going_on field (lines_in others)) rest
    → Begins (going_on field (lines_in (line ∷ others))) all
begins_more field line others all rest own is begins =
    (begins.0, rw (own) (is ∙ ap (λ l. line.items ∷ l) begins.1))

-- a list is its first element and the others
pub split_first : (chosen : List (Vec ℕ)) (line : Vec ℕ) → 1 ≤ length chosen → line ≡ get_or chosen 0 line
    → chosen ≡ line ∷ take (length chosen - 1) (drop 1 chosen)
split_first [] line some is = absurd (omega (arith, some))
split_first (first ∷ others) line some is =
    ap₂ (λ x xs. x ∷ xs) (sym is)
    (sym (take_all (length (first ∷ others) - 1) others (omega arith)))

pub begins_next : (field : List ℕ) (chosen : List (Vec ℕ)) (line first : Vec ℕ)
    (all rest : List (List ℕ)) → 1 ≤ length chosen → line ≡ get_or chosen 0 line
    → goes_on field line.items ≡ true → first.items ≡ line.items → all ≡ first.items ∷ rest
    → Begins (going_on field (lines_in (take (length chosen - 1) (drop 1 chosen)))) rest
    → Begins (going_on field (lines_in chosen)) all
begins_next field chosen line first all rest some is own same all_is begins =
    subst (λ (ls : List (Vec ℕ)). Begins (going_on field (lines_in ls)) all)
    (sym (split_first chosen line some is))
    (begins_more field line (take (length chosen - 1) (drop 1 chosen)) all rest own
    (all_is ∙ ap (λ x. x ∷ rest) same) begins)

-- what holds below a number and of it holds below the next one
pub up_to : (P : ℕ → Type 0) (n : ℕ) → ((t : ℕ) → t < n → P t) → P n → (t : ℕ) → t < n + 1 → P t
up_to P n before here t below = go (nat_lt t n) refl
  where
    go : (b : Bool) → nat_lt t n ≡ b → P t
    go true less = before t (ltb-true t n less)
    go false not_less =
        let none = ltb-false t n not_less in
        let same : n ≡ t = omega (arith, below, none) in
        subst P same here
