-- Tests that answer the same find the same.
use Rattle.std.proofs.Common.{◌≡◌, Bool, cond, ◌&&◌, ◌||◌, List, [], ◌∷◌, ◌++◌, refl, ap, ap₂}
use Rattle.std.specs.List.{list_any}
use Rattle.indexmap.specs.IndexSet.{insert_key}
use Rattle.wit_gathered.specs.contracts.types.TypePartialEq.TheImpl.{ghosts}
use Rattle.wit_gathered.specs.declared.types.Type.{«Type»}
use Rattle.wit_gathered.specs.declared.types.Type.TheVariants as kind
use Rattle.wit_gathered.specs.Requests.{is_pair, same_type, with_pair}

list_any-same : {X : Type 0} (f g : X → Bool) → ((x : X) → f x ≡ g x) → (xs : List X)
    → list_any f xs ≡ list_any g xs
list_any-same f g same [] = refl
list_any-same f g same (x ∷ xs) =
    ap₂ (λ (a b : Bool). a || b) (same x) (list_any-same f g same xs)

-- the test that is derived for types
abbrev pub derived : «Type» → «Type» → Bool
derived a b = ghosts.eq a b

derived-same : (a b : «Type») → derived a b ≡ same_type a b
derived-same kind.Hardirq kind.Hardirq = refl
derived-same kind.Hardirq kind.Softirq = refl
derived-same kind.Hardirq (kind.Of m) = refl
derived-same kind.Hardirq (kind.ReadersOf m) = refl
derived-same kind.Softirq kind.Hardirq = refl
derived-same kind.Softirq kind.Softirq = refl
derived-same kind.Softirq (kind.Of m) = refl
derived-same kind.Softirq (kind.ReadersOf m) = refl
derived-same (kind.Of n) kind.Hardirq = refl
derived-same (kind.Of n) kind.Softirq = refl
derived-same (kind.Of n) (kind.Of m) = refl
derived-same (kind.Of n) (kind.ReadersOf m) = refl
derived-same (kind.ReadersOf n) kind.Hardirq = refl
derived-same (kind.ReadersOf n) kind.Softirq = refl
derived-same (kind.ReadersOf n) (kind.Of m) = refl
derived-same (kind.ReadersOf n) (kind.ReadersOf m) = refl

-- and for pairs of them
abbrev pub derived_pair : «Type» × «Type» → «Type» × «Type» → Bool
derived_pair x y = derived x.0 y.0 && derived x.1 y.1

derived_pair-same : (a b : «Type») (pair : «Type» × «Type»)
    → derived_pair (a, b) pair ≡ is_pair a b pair
derived_pair-same a b pair =
    ap₂ (λ (p q : Bool). p && q) (derived-same a pair.0) (derived-same b pair.1)

pub any-pair : (pairs : List («Type» × «Type»)) (a b : «Type»)
    → list_any (derived_pair (a, b)) pairs ≡ list_any (is_pair a b) pairs
any-pair pairs a b = list_any-same (derived_pair (a, b)) (is_pair a b) (derived_pair-same a b) pairs

pub insert-pair : (pairs : List («Type» × «Type»)) (a b : «Type»)
    → insert_key derived_pair pairs (a, b) ≡ with_pair pairs a b
insert-pair pairs a b = ap (λ is. cond is pairs (pairs ++ (a, b) ∷ [])) (any-pair pairs a b)
