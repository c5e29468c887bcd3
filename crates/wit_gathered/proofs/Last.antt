-- The last of a list, and of what lies in a range.
use Rattle.std.proofs.Common.{◌≡◌, ℕ, Bool, cond, List, [], ◌∷◌, ◌++◌, Option, Some, None, filter, nat_le}
use Rattle.std.proofs.Common.{refl, sym, ap, ap₂, ◌∙◌, arith, MatchOption, option_map}
use Rattle.std.proofs.lemmas.Bool.Decides.{nat_tests}
use Rattle.std.specs.BTreeMap.Range.{entries_between, range_contains}
use Rattle.std.specs.declared.ops.Bound.TheVariants.{Included, Unbounded}
use Rattle.std.specs.Ordering.{nat_cmp}
use Rattle.wit_gathered.specs.Symbols.{last_of}

last_of-snoc : {X : Type 0} (found : Option X) (xs : List X) (x : X)
    → last_of found (xs ++ x ∷ []) ≡ Some x
last_of-snoc found [] x = refl
last_of-snoc found (y ∷ xs) x = last_of-snoc (Some y) xs x

-- what is taken off the end is the last
pub last-taken : {X Y : Type 0} (view : Y → X) (xs left : List X) (r : Option Y)
    → MatchOption r ((xs ≡ []) × (left ≡ [])) (λ y. xs ≡ left ++ view y ∷ [])
    → option_map view r ≡ last_of None xs
last-taken view xs left None none = ap (last_of None) (sym none.0)
last-taken view xs left (Some y) some =
    sym (ap (last_of None) some ∙ last_of-snoc None left (view y))

filter-same : {X : Type 0} (f g : X → Bool) → ((x : X) → f x ≡ g x) → (xs : List X)
    → filter f xs ≡ filter g xs
filter-same f g same [] = refl
filter-same f g same (x ∷ xs) =
    ap₂ (λ (b : Bool) l. cond b (x ∷ l) l) (same x) (filter-same f g same xs)

within : (address : ℕ) (q : ℕ)
    → range_contains nat_cmp Unbounded (Included address) q ≡ nat_le q address
within address q = grind (arith, nat_tests)

pub up-to : (address : ℕ) (symbols : List (ℕ × List ℕ))
    → entries_between nat_cmp Unbounded (Included address) symbols
    ≡ filter (λ (s : ℕ × List ℕ). nat_le s.0 address) symbols
up-to address symbols =
    filter-same (λ (s : ℕ × List ℕ). range_contains nat_cmp Unbounded (Included address) s.0)
    (λ (s : ℕ × List ℕ). nat_le s.0 address) (λ s. within address s.0) symbols
