-- What the squares say is what they were made of.
use Rattle.std.proofs.Common.{◌≡◌, ◌⊎◌, ℕ, ◌≤◌, Bool, true, false, ◌&&◌, ◌||◌, eqb, leb, ◌<◌, List}
use Rattle.std.proofs.Common.{[], ◌∷◌, refl, sym, ◌∙◌, inl, inr, ⊎_elim, arith}
use Rattle.std.specs.List.{list_any}
use Rattle.std.proofs.lemmas.Bool.{or_cases, or_left, or_right, and_parts, and_from, false≢true}
use Rattle.std.proofs.lemmas.Bool.{le-leb, cases_lt}
use Rattle.wit_model.specs.declared.locks.TypeNo.{TypeNo}
use Rattle.wit_model.specs.declared.calls.Adoption.{Adoption}
use Rattle.wit_model.specs.Rules.Orders.{is_adoption_of, is_direct, IsPath, Before, is_before}
use Rattle.wit_model.specs.Rules.Orders.{IsSound, is_pair_of, is_found, cell}
use Rattle.wit_model.specs.Rules.Numbers.{IsNumber}
use Rattle.wit_model.proofs.Orders.Paths.{before_from_test, test_from_before}
use Rattle.wit_matrix.specs.Relation.{HasSameOrders, HasSameFound, OrdersAmong, FoundAmong}
use Rattle.wit_matrix.specs.Squares.{has, pairs_where, as_order, as_types, orders_in, found_in}
use Rattle.wit_matrix.specs.Squares.{Holds}
use Rattle.wit_matrix.proofs.Pairs.{is_pair, list_any-map, pair_from, pair_to}

pub same_from : (x y : Bool) → (x ≡ true → y ≡ true) → (y ≡ true → x ≡ true) → x ≡ y
same_from true y to from = sym (to refl)
same_from false true to from = from refl
same_from false false to from = refl

-- the same direct orders make the same paths
path_by : (os ps : List Adoption) → HasSameOrders os ps → (a : ℕ) (way : List ℕ) (b : ℕ)
    → IsPath os a way b → IsPath ps a way b
path_by os ps same a [] b p = sym (same a b) ∙ p
path_by os ps same a (v ∷ way) b p = (sym (same a v) ∙ p.0, path_by os ps same v way b p.1)

pub before_by : (os ps : List Adoption) → HasSameOrders os ps → (a b : ℕ) → Before os a b
    → Before ps a b
before_by os ps same a b p = (p.0, path_by os ps same a p.0 b p.1)

pub orders-sym : (os ps : List Adoption) → HasSameOrders os ps → HasSameOrders ps os
orders-sym os ps same a b = sym (same a b)

pub same_before : (os ps : List Adoption) → HasSameOrders os ps → (a b : ℕ)
    → is_before os a b ≡ is_before ps a b
same_before os ps same a b =
    same_from (is_before os a b) (is_before ps a b)
    (λ is. test_from_before ps a b (before_by os ps same a b (before_from_test os a b is)))
    (λ is. test_from_before os a b
    (before_by ps os (orders-sym os ps same) a b (before_from_test ps a b is)))

pub same_sound : (os ps : List Adoption) → HasSameOrders os ps → IsSound os → IsSound ps
same_sound os ps same sound a round = sound a (before_by ps os (orders-sym os ps same) a a round)

-- the same orders and pairs make the same bytes
pub same_cell : (os ps : List Adoption) (fs gs : List (TypeNo × TypeNo)) → HasSameOrders os ps
    → HasSameFound fs gs → (a b : ℕ) → cell os fs a b ≡ cell ps gs a b
same_cell os ps fs gs orders found a b =
    rw (
      orders a b,
      orders b a,
      same_before os ps orders a b,
      same_before os ps orders b a,
      found a b,
    ) refl

pub found-turned : (fs : List (TypeNo × TypeNo)) (a b : ℕ) → is_found fs a b ≡ true
    → is_found fs b a ≡ true
found-turned [] a b is = is
found-turned (f ∷ fs) a b is =
    ⊎_elim
    (λ here. or_left (is_pair_of b a f) (is_found fs b a)
    (⊎_elim
    (λ x. or_right ((eqb f.0.0 b) && (eqb f.1.0 a)) ((eqb f.0.0 a) && (eqb f.1.0 b)) x)
    (λ x. or_left ((eqb f.0.0 b) && (eqb f.1.0 a)) ((eqb f.0.0 a) && (eqb f.1.0 b)) x)
    (or_cases ((eqb f.0.0 a) && (eqb f.1.0 b)) ((eqb f.0.0 b) && (eqb f.1.0 a)) here)))
    (λ later. or_right (is_pair_of b a f) (is_found fs b a) (found-turned fs a b later))
    (or_cases (is_pair_of a b f) (is_found fs a b) is)

abbrev found_bit : ℕ → List ℕ → ℕ → ℕ → Bool
found_bit n square a b = leb a b && has n square a b

direct_pairs : (n : ℕ) (square : List ℕ) (a b : ℕ)
    → is_direct (orders_in n square) a b ≡ list_any (is_pair a b) (pairs_where n (has n square))
direct_pairs n square a b =
    list_any-map (is_adoption_of a b) as_order (pairs_where n (has n square))

any_or : {X : Type 0} (p q : X → Bool) (xs : List X) → list_any (λ x. p x || q x) xs ≡ true
    → (list_any p xs ≡ true) ⊎ (list_any q xs ≡ true)
any_or p q [] is = absurd (false≢true is)
any_or p q (x ∷ xs) is =
    ⊎_elim
    (λ here. ⊎_elim (λ h. inl (or_left (p x) (list_any p xs) h))
    (λ h. inr (or_left (q x) (list_any q xs) h)) (or_cases (p x) (q x) here))
    (λ later. ⊎_elim (λ h. inl (or_right (p x) (list_any p xs) h))
    (λ h. inr (or_right (q x) (list_any q xs) h)) (any_or p q xs later))
    (or_cases (p x || q x) (list_any (λ y. p y || q y) xs) is)

any_left : {X : Type 0} (p q : X → Bool) (xs : List X) → list_any p xs ≡ true
    → list_any (λ x. p x || q x) xs ≡ true
any_left p q [] is = is
any_left p q (x ∷ xs) is =
    ⊎_elim
    (λ h. or_left (p x || q x) (list_any (λ y. p y || q y) xs) (or_left (p x) (q x) h))
    (λ h. or_right (p x || q x) (list_any (λ y. p y || q y) xs) (any_left p q xs h))
    (or_cases (p x) (list_any p xs) is)

found_pairs : (n : ℕ) (square : List ℕ) (a b : ℕ)
    → is_found (found_in n square) a b ≡ list_any (λ (p : ℕ × ℕ). is_pair a b p || is_pair b a p)
    (pairs_where n (found_bit n square))
found_pairs n square a b =
    list_any-map (is_pair_of a b) as_types (pairs_where n (found_bit n square))

pub direct_among : (n : ℕ) (square : List ℕ) → OrdersAmong n (orders_in n square)
direct_among n square a b is = let r =
    pair_from n (has n square) a b (sym (direct_pairs n square a b) ∙ is) in (r.0, r.1.0)

pub found_among : (n : ℕ) (square : List ℕ) → FoundAmong n (found_in n square)
found_among n square a b is =
    ⊎_elim
    (λ h. let r = pair_from n (found_bit n square) a b h in (r.0, r.1.0))
    (λ h. let r = pair_from n (found_bit n square) b a h in (r.1.0, r.0))
    (any_or (is_pair a b) (is_pair b a) (pairs_where n (found_bit n square))
    (sym (found_pairs n square a b) ∙ is))

pub orders_settled : (n : ℕ) (square : List ℕ) (os : List Adoption) → Holds n square (is_direct os)
    → OrdersAmong n os → HasSameOrders (orders_in n square) os
orders_settled n square os are among a b =
    same_from (is_direct (orders_in n square) a b) (is_direct os a b)
    (λ is. let r = pair_from n (has n square) a b (sym (direct_pairs n square a b) ∙ is) in
    sym (are a b r.0 r.1.0) ∙ r.1.1)
    (λ is. let r = among a b is in
    direct_pairs n square a b ∙ pair_to n (has n square) a b r.0 r.1 (are a b r.0 r.1 ∙ is))

from_bit : (n : ℕ) (square : List ℕ) (fs : List (TypeNo × TypeNo)) → Holds n square (is_found fs)
    → (a b : ℕ) → list_any (is_pair a b) (pairs_where n (found_bit n square)) ≡ true
    → is_found fs a b ≡ true
from_bit n square fs are a b h =
    let r = pair_from n (found_bit n square) a b h in
    sym (are a b r.0 r.1.0) ∙ (and_parts (leb a b) (has n square a b) r.1.1).1

to_bit : (n : ℕ) (square : List ℕ) (fs : List (TypeNo × TypeNo)) → Holds n square (is_found fs)
    → (a b : ℕ) → IsNumber n a → IsNumber n b → a ≤ b → is_found fs a b ≡ true
    → list_any (is_pair a b) (pairs_where n (found_bit n square)) ≡ true
to_bit n square fs are a b at bt le is =
    pair_to n (found_bit n square) a b at bt
    (and_from (leb a b) (has n square a b) (le-leb a b le) (are a b at bt ∙ is))

any_right : {X : Type 0} (p q : X → Bool) (xs : List X) → list_any q xs ≡ true
    → list_any (λ x. p x || q x) xs ≡ true
any_right p q [] is = is
any_right p q (x ∷ xs) is =
    ⊎_elim
    (λ h. or_left (p x || q x) (list_any (λ y. p y || q y) xs) (or_right (p x) (q x) h))
    (λ h. or_right (p x || q x) (list_any (λ y. p y || q y) xs) (any_right p q xs h))
    (or_cases (q x) (list_any q xs) is)

pub found_settled : (n : ℕ) (square : List ℕ) (fs : List (TypeNo × TypeNo))
    → Holds n square (is_found fs) → FoundAmong n fs → HasSameFound (found_in n square) fs
found_settled n square fs are among a b =
    same_from (is_found (found_in n square) a b) (is_found fs a b)
    (λ is. ⊎_elim
    (λ h. from_bit n square fs are a b h)
    (λ h. found-turned fs b a (from_bit n square fs are b a h))
    (any_or (is_pair a b) (is_pair b a) (pairs_where n (found_bit n square))
    (sym (found_pairs n square a b) ∙ is)))
    (λ is. let r = among a b is in
    found_pairs n square a b
    ∙ ⊎_elim
    (λ (lt : a < b). any_left (is_pair a b) (is_pair b a) (pairs_where n (found_bit n square))
    (to_bit n square fs are a b r.0 r.1 (omega arith) is))
    (λ (le : b ≤ a). any_right (is_pair a b) (is_pair b a) (pairs_where n (found_bit n square))
    (to_bit n square fs are b a r.1 r.0 le (found-turned fs a b is)))
    (cases_lt a b))

-- a square says of n types what its orders say
pub direct_holds : (n : ℕ) (square : List ℕ) → Holds n square (is_direct (orders_in n square))
direct_holds n square a b at bt =
    same_from (has n square a b) (is_direct (orders_in n square) a b)
    (λ is. direct_pairs n square a b ∙ pair_to n (has n square) a b at bt is)
    (λ is. (pair_from n (has n square) a b (sym (direct_pairs n square a b) ∙ is)).1.1)
