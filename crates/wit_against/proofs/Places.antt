-- Places of types, and the orders of types, as more lines are read.
use Rattle.std.proofs.Common.{◌≡◌, ℕ, suc, ◌+◌, ◌<◌, ◌≤◌, Bool, true, false, not, cond}
use Rattle.std.proofs.Common.{eqb, List, [], ◌∷◌, ◌++◌, length, Option, None, Some, is_some}
use Rattle.std.proofs.Common.{position, unwrap_or, refl, sym, ap, ◌∙◌, inl, inr, arith, length-append}
use Rattle.std.specs.List.{list_any, position_or_len}
use Rattle.std.specs.Str.{bytes_eq}
use Rattle.std.proofs.lemmas.Bool.{and_from, and_parts, eq-eqb, cases_lt, eqb-true, or_cases, lt-ltb, true≢false}
use Rattle.wit_circles.specs.declared.orders.Order.{Order}
use Rattle.wit_circles.specs.Orders.{Has}
use Rattle.wit_orders.specs.Answers.{place_in}
use Rattle.wit_orders.proofs.Forward.{found_place, place-stays}
use Rattle.wit_against.specs.Known.{Known, number_of, same_order, with_new, with_type}

-- ---- places

pub bytes_eq-refl : (xs : List ℕ) → bytes_eq xs xs ≡ true
bytes_eq-refl [] = refl
bytes_eq-refl (x ∷ xs) =
    and_from (eqb x x) (bytes_eq xs xs) (eq-eqb x x refl) (bytes_eq-refl xs)

none-within : {X : Type 0} (p : X → Bool) (xs : List X) → position p xs ≡ None
    → length xs ≤ position_or_len p xs
none-within p xs none =
    elim (cases_lt (position_or_len p xs) (length xs)) [
      | inl lt ↦ absurd (true≢false (ap is_some (sym (found p xs lt) ∙ none)))
      | inr far ↦ far
    ]
  where
    found : {X : Type 0} (p : X → Bool) (xs : List X) → position_or_len p xs < length xs
        → position p xs ≡ Some (position_or_len p xs)
    found p xs lt =
        ap (λ b. cond b (Some (position_or_len p xs)) None)
        (lt-ltb (position_or_len p xs) (length xs) lt)

-- what has no place has the next one once it is added
len-new : {X : Type 0} (p : X → Bool) (xs : List X) (x : X) → length xs ≤ position_or_len p xs
    → p x ≡ true → position_or_len p (xs ++ x ∷ []) ≡ length xs
len-new p [] x far is = ap (λ b. cond (not b) 1 0) is
len-new p (y ∷ xs) x far is = by (p y) far (λ less. len-new p xs x less is)
  where
    by : (b : Bool) → suc (length xs) ≤ cond (not b) (1 + position_or_len p xs) 0
        → (length xs ≤ position_or_len p xs → position_or_len p (xs ++ x ∷ []) ≡ length xs)
        → cond (not b) (1 + position_or_len p (xs ++ x ∷ [])) 0 ≡ suc (length xs)
    by true far rest = absurd (omega (arith, far))
    by false far rest =
        let same = rest (omega (arith, far)) in omega (arith, same)

place-new : (types : List (List ℕ)) (text : List ℕ) → bytes_eq text text ≡ true
    → place_in types text ≡ None → place_in (types ++ text ∷ []) text ≡ Some (length types)
place-new types text same none =
    found_place (bytes_eq text) (types ++ text ∷ []) (length types)
    (len-new (bytes_eq text) types text (none-within (bytes_eq text) types none) same)
    (omega (arith, length-append types (text ∷ [])))

module _ (types : List (List ℕ)) (text : List ℕ) (same : bytes_eq text text ≡ true) where
  pub placed : place_in (with_type types text) text ≡ Some (number_of types text)
  placed = by (place_in types text) refl
    where
      by : (place : Option ℕ) → place_in types text ≡ place
          → place_in (cond (is_some place) types (types ++ text ∷ [])) text
          ≡ Some (unwrap_or place (length types))
      by None none = place-new types text same none
      by (Some i) is = is

pub still : (types : List (List ℕ)) (more text : List ℕ) (i : ℕ) → place_in types text ≡ Some i
    → place_in (with_type types more) text ≡ Some i
still types more text i is = by (is_some (place_in types more))
  where
    by : (b : Bool) → place_in (cond b types (types ++ more ∷ [])) text ≡ Some i
    by true = is
    by false = place-stays types (more ∷ []) text i is

-- ---- orders

has-any : (orders : List Order) (o : Order) → list_any (same_order o) orders ≡ true
    → Has orders o.from o.to
has-any [] o none = absurd (true≢false (sym none))
has-any (p ∷ orders) o any =
    elim (or_cases (same_order o p) (list_any (same_order o) orders) any) [
      | inl is ↦
          let parts = and_parts (eqb o.from p.from) (eqb o.to p.to) is in
          inl (sym (eqb-true o.from p.from parts.0), sym (eqb-true o.to p.to parts.1))
      | inr later ↦ inr (has-any orders o later)
    ]

has-left : (orders more : List Order) (a b : ℕ) → Has orders a b → Has (orders ++ more) a b
has-left [] more a b has = absurd has
has-left (o ∷ orders) more a b (inl is) = inl is
has-left (o ∷ orders) more a b (inr has) = inr (has-left orders more a b has)

has-last : (orders : List Order) (o : Order) → Has (orders ++ o ∷ []) o.from o.to
has-last [] o = inl (refl, refl)
has-last (p ∷ orders) o = inr (has-last orders o)

module _ (k : Known) (o : Order) (line : List ℕ) where
  pub new-has : Has (with_new k o line).orders o.from o.to
  new-has = by (list_any (same_order o) k.orders) refl
    where
      by : (b : Bool) → list_any (same_order o) k.orders ≡ b → Has (cond b k (record k {
        orders = k.orders ++ o ∷ [];
        lines = k.lines ++ line ∷ [];
      })).orders o.from o.to
      by true any = has-any k.orders o any
      by false none = has-last k.orders o

  pub new-stays : (a b : ℕ) → Has k.orders a b → Has (with_new k o line).orders a b
  new-stays a b has = by (list_any (same_order o) k.orders)
    where
      by : (x : Bool) → Has (cond x k (record k {
        orders = k.orders ++ o ∷ [];
        lines = k.lines ++ line ∷ [];
      })).orders a b
      by true = has
      by false = has-left k.orders (o ∷ []) a b has

  pub new-types : (with_new k o line).types ≡ k.types
  new-types = by (list_any (same_order o) k.orders)
    where
      by : (x : Bool) → (cond x k (record k {
        orders = k.orders ++ o ∷ [];
        lines = k.lines ++ line ∷ [];
      })).types ≡ k.types
      by true = refl
      by false = refl
