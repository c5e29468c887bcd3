-- The search for a circle that closes: a path of facts, each of which leads to the next one.
use Rattle.std.specs.Prelude.{ℕ, ◌<◌, ◌≤◌, ◌≡◌, Bool, true, not, ◌&&◌, ◌==◌, List, [], ◌∷◌, ◌++◌}
use Rattle.std.specs.Prelude.{length}
use Rattle.std.specs.List.{list_any}
use Rattle.wit_alarms.specs.declared.facts.Fact.{Fact}
use Rattle.wit_alarms.specs.declared.facts.Lives.{Lives}
use Rattle.wit_alarms.specs.declared.facts.Reasons.{Reasons}
use Rattle.wit_alarms.specs.Facts.{can_meet, can_wait, of_both, all_pairs, closes}
use Rattle.wit_alarms.specs.Facts.{no_reasons}

abbrev pub leads_on : (ℕ → ℕ → Bool) → ℕ → List ℕ → Bool
leads_on leads i [] = true
leads_on leads i (j ∷ js) = leads i j && leads_on leads j js

-- each of these places leads to the next
abbrev pub leads_along : (ℕ → ℕ → Bool) → List ℕ → Bool
leads_along leads [] = true
leads_along leads (i ∷ is) = leads_on leads i is

abbrev pub last_of : ℕ → List ℕ → ℕ
last_of i [] = i
last_of i (j ∷ js) = last_of j js

-- the last place of the path leads to this one; the empty path leads anywhere
abbrev pub follows : Reasons → Lives → List Fact → List ℕ → ℕ → Bool
follows why lives facts [] j = true
follows why lives facts (i ∷ is) j = of_both (can_wait why) facts (last_of i is) j

abbrev pub differ : ℕ → ℕ → Bool
differ i j = not (i == j)

-- each fact stands in it once
abbrev pub each_once : List ℕ → Bool
each_once path = all_pairs differ path

-- whether it may become a circle that closes
abbrev pub is_open : Reasons → Lives → List Fact → List ℕ → Bool
is_open why lives facts path =
    leads_along (of_both (can_wait why) facts) path
    && (all_pairs (of_both (can_meet why lives) facts) path && each_once path)

-- no circle closes that goes on so from this path, with so many further facts at most
abbrev pub NoneGoesOn : Reasons → Lives → List Fact → List ℕ → ℕ → Type 0
NoneGoesOn why lives facts path most =
    (rest : List ℕ) → 0 < length rest → length rest ≤ most → each_once (path ++ rest) ≡ true
    → closes why lives facts (path ++ rest) ≡ true → ⊥

-- what closes has only these facts
abbrev pub HasAll : Reasons → Lives → List Fact → List ℕ → Type 0
HasAll why lives facts some =
    (circle : List ℕ) (i : ℕ) → closes why lives facts circle ≡ true
    → list_any (λ j. i == j) circle ≡ true → list_any (λ j. i == j) some ≡ true

-- whatever circle there is of single locks, it has only these facts
abbrev pub IsEnough : List Fact → List ℕ → Type 0
IsEnough facts some = (lives : Lives) → HasAll no_reasons lives facts some
