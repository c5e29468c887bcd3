-- A list of types by their names turns an order round where a later entry's type is an earlier
-- one's or before it, by the orders and the types that stood before the list was entered; and
-- orders stay among the types.
use Rattle.std.proofs.Common.{◌≡◌, ℕ, ◌+◌, ◌<◌, ◌≤◌, Bool, true, false, not, ◌||◌, cond, eqb, Some}
use Rattle.std.proofs.Common.{None, List, [], ◌∷◌, ◌++◌, map, length, refl, ap, ap₂, sym, ◌∙◌}
use Rattle.std.proofs.Common.{subst, arith, append_assoc, append-nil, length-append, ⊎_elim}
use Rattle.std.specs.List.{list_any, list_all, position_or_len}
use Rattle.std.specs.Str.{bytes_eq}
use Rattle.std.proofs.lemmas.Bool.{and_parts, or_parts, or_cases, eqb-true, eq-eqb, ne_eqb, le-ltb}
use Rattle.std.proofs.lemmas.Bool.{true≢false}
use Rattle.std.proofs.lemmas.Slice.Eq.{bytes_eq-Decides}
use Rattle.wit_model.specs.declared.locks.Class.{Class}
use Rattle.wit_model.specs.declared.locks.Origin.TheVariants.{Listed}
use Rattle.wit_model.specs.declared.calls.Adoption.{Adoption}
use Rattle.wit_model.specs.declared.locks.LockType.{LockType}
use Rattle.wit_model.specs.Rules.Types.{is_named, is_enrolled, type_number, enrolled, enrolled_all}
use Rattle.wit_model.specs.Rules.Orders.{is_before, adopted_once, listed_pairs}
use Rattle.wit_model.specs.declared.faults.Fault.TheVariants.{WrongOrder}
use Rattle.wit_model.specs.Rules.Names.{is_name}
use Rattle.wit_model.specs.Rules.Start.{is_misclassed, has_both_kinds, has_twin, turns_round}
use Rattle.wit_model.specs.Rules.Start.{list_fault}
use Rattle.wit_model.proofs.Orders.Types.{place-append, place-within, number-new}
use Rattle.wit_model.proofs.Orders.Started.{all-enrolled, one_name}
use Rattle.wit_known.specs.Listed.{IsWithin, is_back, goes_back}
use Rattle.wit_known.proofs.Turns.{back, backs, turns, twins, joins, before-once, turns-back}

numbers : List LockType → List (Class × List ℕ) → List ℕ
numbers types list = map (λ (e : Class × List ℕ). type_number e.1 types) list

turns_round-numbers : (types : List LockType) (orders : List Adoption)
    (list : List (Class × List ℕ)) → turns_round types orders list
    ≡ turns orders (numbers types list)
unfolding numbers
turns_round-numbers types orders [] = refl
turns_round-numbers types orders (a ∷ []) = refl
turns_round-numbers types orders (a ∷ b ∷ list) =
    ap (λ z. is_before orders (type_number b.1 types) (type_number a.1 types) || z)
    (turns_round-numbers types (adopted_once (type_number a.1 types)
    (type_number b.1 types) Listed orders) (b ∷ list))

AreKnown : List LockType → List (Class × List ℕ) → Type 0
AreKnown types list = list_all (λ (e : Class × List ℕ). is_enrolled e.1 types) list ≡ true

-- names are one where their numbers are
names-numbers : (types : List LockType) (a b : List ℕ) → is_enrolled a types ≡ true
    → is_enrolled b types ≡ true
    → bytes_eq a b ≡ eqb (type_number a types) (type_number b types)
names-numbers types a b known_a known_b = go (eqb (type_number a types) (type_number b types)) refl
  where
    go : (t : Bool) → eqb (type_number a types) (type_number b types) ≡ t → bytes_eq a b ≡ t
    go true is = (bytes_eq-Decides a b).1 (one_name a b types known_a known_b (eqb-true _ _ is))
    go false is = apart (bytes_eq a b) refl
      where
        apart : (t : Bool) → bytes_eq a b ≡ t → t ≡ false
        apart true same =
            absurd (true≢false (sym (eq-eqb _ _
            (ap (λ n. type_number n types) ((bytes_eq-Decides a b).0 same))) ∙ is))
        apart false differ = refl

twins-names : (types : List LockType) (list : List (Class × List ℕ)) → AreKnown types list
    → has_twin list ≡ twins (numbers types list)
unfolding numbers AreKnown
twins-names types [] known = refl
twins-names types (a ∷ []) known = refl
twins-names types (a ∷ b ∷ list) known =
    let here =
    and_parts (is_enrolled a.1 types)
    (list_all (λ (e : Class × List ℕ). is_enrolled e.1 types) (b ∷ list)) known in
    let next =
    and_parts (is_enrolled b.1 types)
    (list_all (λ (e : Class × List ℕ). is_enrolled e.1 types) list) here.1 in
    ap₂ (λ x y. x || y) (names-numbers types a.1 b.1 here.0 next.0)
    (twins-names types (b ∷ list) here.1)

-- entering a list only adds types
pub more-types : (list : List (Class × List ℕ)) (types : List LockType)
    → (more : List LockType) × (enrolled_all list types ≡ types ++ more)
more-types [] types = ([], sym (append-nil types))
more-types (e ∷ list) types =
    let one = added e.1 e.0 in
    let rest = more-types list (enrolled e.1 e.0 types) in
    (one.0 ++ rest.0, rest.1 ∙ (ap (λ ts. ts ++ rest.0) one.1 ∙ append_assoc types one.0 rest.0))
  where
    added : (name : List ℕ) (class : Class) → (more : List LockType)
        × (enrolled name class types ≡ types ++ more)
    added name class = go (is_enrolled name types)
      where
        go : (b : Bool) → (more : List LockType)
            × (cond b types (types ++ record { name = name; class = class } ∷ []) ≡ types ++ more)
        go true = ([], sym (append-nil types))
        go false = (record { name = name; class = class } ∷ [], refl)

place-beyond : {X : Type 0} (p : X → Bool) (xs ys : List X) → list_any p xs ≡ false
    → length xs ≤ position_or_len p (xs ++ ys)
place-beyond p [] ys none = omega arith
place-beyond p (x ∷ xs) ys none =
    let parts =
    or_parts (p x) (list_any p xs) none in
    rw parts.0 (let le = place-beyond p xs ys parts.1 in omega (arith, le))

eqb-swap : (m n : ℕ) → eqb m n ≡ eqb n m
eqb-swap m n = go (eqb n m) refl
  where
    go : (t : Bool) → eqb n m ≡ t → eqb m n ≡ t
    go true is = eq-eqb m n (sym (eqb-true n m is))
    go false is = ne_eqb m n (λ same. true≢false (sym (eq-eqb n m (sym same)) ∙ is))

module _ (types : List LockType) (list : List (Class × List ℕ)) where
  -- a known name keeps its number, and a new one's is beyond those given
  number-kept : (name : List ℕ) → is_enrolled name types ≡ true
      → type_number name (enrolled_all list types) ≡ type_number name types
  number-kept name is =
      let m = more-types list types in
      ap (λ ts. type_number name ts) m.1 ∙ ap (λ n. n + 1)
      (place-append (is_named name) types m.0 is)

  number-beyond : (name : List ℕ) → is_enrolled name types ≡ false
      → length types < type_number name (enrolled_all list types)
  number-beyond name none =
      let m = more-types list types in
      let le = place-beyond (is_named name) types m.0 none in
      subst (λ ts. length types < type_number name ts) (sym m.1) (omega (arith, le))

  outside-left : (orders : List Adoption) (a b : ℕ) → IsWithin (length types) orders
      → length types < a → is_before orders a b ≡ false
  outside-left orders a b within past = go (is_before orders a b) refl
    where
      go : (t : Bool) → is_before orders a b ≡ t → t ≡ false
      go true is = let le = (within a b is).0 in absurd (omega (arith, le, past))
      go false is = refl

  outside-right : (orders : List Adoption) (a b : ℕ) → IsWithin (length types) orders
      → length types < b → is_before orders a b ≡ false
  outside-right orders a b within past = go (is_before orders a b) refl
    where
      go : (t : Bool) → is_before orders a b ≡ t → t ≡ false
      go true is = let le = (within a b is).1 in absurd (omega (arith, le, past))
      go false is = refl

  -- the types so far tell who is before whom
  before-kept : (orders : List Adoption) (a b : List ℕ) → IsWithin (length types) orders
      → is_before orders (type_number a types) (type_number b types)
      ≡ is_before orders (type_number a (enrolled_all list types))
      (type_number b (enrolled_all list types))
  before-kept orders a b within = go (is_enrolled a types) (is_enrolled b types) refl refl
    where
      go : (s t : Bool) → is_enrolled a types ≡ s → is_enrolled b types ≡ t
          → is_before orders (type_number a types) (type_number b types)
          ≡ is_before orders (type_number a (enrolled_all list types))
          (type_number b (enrolled_all list types))
      go true true known_a known_b =
          ap₂ (λ m n. is_before orders m n) (sym (number-kept a known_a))
          (sym (number-kept b known_b))
      go false t new_a is =
          outside-left orders _ _ within (let e = number-new a types new_a in omega (arith, e))
          ∙ sym (outside-left orders _ _ within (number-beyond a new_a))
      go true false is new_b =
          outside-right orders _ _ within (let e = number-new b types new_b in omega (arith, e))
          ∙ sym (outside-right orders _ _ within (number-beyond b new_b))

  behind-numbers : (orders : List Adoption) (a : List ℕ) (rest : List (Class × List ℕ))
      → IsWithin (length types) orders
      → is_enrolled a (enrolled_all list types) ≡ true → AreKnown (enrolled_all list types) rest
      → list_any (λ (b : Class × List ℕ). is_back types orders a b.1) rest
      ≡ list_any (back orders (type_number a (enrolled_all list types)))
      (numbers (enrolled_all list types) rest)
  unfolding numbers AreKnown back
  behind-numbers orders a [] within known_a known = refl
  behind-numbers orders a (b ∷ rest) within known_a known =
      let parts =
      and_parts (is_enrolled b.1 (enrolled_all list types))
      (list_all (λ (e : Class × List ℕ). is_enrolled e.1 (enrolled_all list types)) rest)
      known in
      ap₂ (λ x y. x || y)
      (ap₂ (λ x y. x || y) (names-numbers (enrolled_all list types) b.1 a parts.0 known_a
      ∙ eqb-swap _ _) (before-kept orders b.1 a within))
      (behind-numbers orders a rest within known_a parts.1)

  goes_back-numbers : (orders : List Adoption) (rest : List (Class × List ℕ))
      → IsWithin (length types) orders → AreKnown (enrolled_all list types) rest
      → goes_back types orders rest ≡ backs orders (numbers (enrolled_all list types) rest)
  unfolding numbers AreKnown
  goes_back-numbers orders [] within known = refl
  goes_back-numbers orders (a ∷ rest) within known =
      let parts =
      and_parts (is_enrolled a.1 (enrolled_all list types))
      (list_all (λ (e : Class × List ℕ). is_enrolled e.1 (enrolled_all list types)) rest)
      known in
      ap₂ (λ x y. x || y) (behind-numbers orders a.1 rest within parts.0 parts.1)
      (goes_back-numbers orders rest within parts.1)

-- an order is turned round where the list goes back
pub turns_round-back : (types : List LockType) (orders : List Adoption)
    (list : List (Class × List ℕ)) → IsWithin (length types) orders → has_twin list ≡ false
    → turns_round (enrolled_all list types) orders list ≡ goes_back types orders list
unfolding AreKnown
turns_round-back types orders list within apart =
    turns_round-numbers (enrolled_all list types) orders list
    ∙ (turns-back orders (numbers (enrolled_all list types) list)
    (sym (twins-names (enrolled_all list types) list (all-enrolled list types)) ∙ apart)
    ∙ sym (goes_back-numbers types list orders list within (all-enrolled list types)))

within-once : (n p c : ℕ) (orders : List Adoption) → IsWithin n orders → p ≤ n → c ≤ n
    → IsWithin n (adopted_once p c Listed orders)
unfolding joins
within-once n p c orders within few_p few_c = λ a b is.
    ⊎_elim
    (λ old. within a b old)
    (λ new. let parts = and_parts (eqb p a || is_before orders a p)
    (eqb c b || is_before orders c b) new in (
      ⊎_elim (λ e. subst (λ x. x ≤ n) (eqb-true p a e) few_p) (λ q. (within a p q).0)
          (or_cases (eqb p a) (is_before orders a p) parts.0),
      ⊎_elim (λ e. subst (λ x. x ≤ n) (eqb-true c b e) few_c) (λ q. (within c b q).1)
          (or_cases (eqb c b) (is_before orders c b) parts.1),
    ))
    (or_cases (is_before orders a b) (joins orders p c a b) (sym (before-once orders p c a b) ∙ is))

number-few : (name : List ℕ) (types : List LockType) → is_enrolled name types ≡ true
    → type_number name types ≤ length types
number-few name types is = let lt = place-within (is_named name) types is in omega (arith, lt)

within-pairs : (types : List LockType) (list : List (Class × List ℕ)) (orders : List Adoption)
    → AreKnown types list → IsWithin (length types) orders
    → IsWithin (length types) (listed_pairs types list orders)
unfolding AreKnown
within-pairs types [] orders known within = within
within-pairs types (a ∷ []) orders known within = within
within-pairs types (a ∷ b ∷ list) orders known within =
    let here =
    and_parts (is_enrolled a.1 types)
    (list_all (λ (e : Class × List ℕ). is_enrolled e.1 types) (b ∷ list)) known in
    let next =
    and_parts (is_enrolled b.1 types)
    (list_all (λ (e : Class × List ℕ). is_enrolled e.1 types) list) here.1 in
    within-pairs types (b ∷ list)
    (adopted_once (type_number a.1 types) (type_number b.1 types) Listed orders) here.1
    (within-once (length types) (type_number a.1 types) (type_number b.1 types) orders within
    (number-few a.1 types here.0) (number-few b.1 types next.0))

-- orders stay among the types
pub within-list : (types : List LockType) (list : List (Class × List ℕ)) (orders : List Adoption)
    → IsWithin (length types) orders
    → IsWithin (length (enrolled_all list types))
    (listed_pairs (enrolled_all list types) list orders)
unfolding AreKnown
within-list types list orders within =
    let m = more-types list types in
    let le : length types ≤ length (enrolled_all list types) =
    subst (λ ts. length types ≤ length ts) (sym m.1) (omega (arith, length-append types m.0)) in
    within-pairs (enrolled_all list types) list orders (all-enrolled list types)
    (λ a b is. let w = within a b is in (omega (arith, w.0, le), omega (arith, w.1, le)))

pub within-next : (types : List LockType) (list : List (Class × List ℕ)) (orders : List Adoption)
    (next_types : List LockType) (next_orders : List Adoption) → IsWithin (length types) orders
    → next_types ≡ enrolled_all list types
    → next_orders ≡ listed_pairs (enrolled_all list types) list orders
    → IsWithin (length next_types) next_orders
within-next types list orders next_types next_orders within types_are orders_are =
    subst (λ ts. IsWithin (length ts) next_orders) (sym types_are)
    (subst (λ os. IsWithin (length (enrolled_all list types)) os) (sym orders_are)
    (within-list types list orders within))

-- the last kind of fault, where there is none of the others
pub fault-behind : (most : ℕ) (types : List LockType) (orders : List Adoption)
    (list : List (Class × List ℕ)) (back : Bool) → IsWithin (length types) orders
    → list_any (λ (e : Class × List ℕ). not (is_name e.1)) list ≡ false
    → list_any (is_misclassed types list) list ≡ false
    → length (enrolled_all list types) ≤ most → has_both_kinds list ≡ false → has_twin list ≡ false
    → goes_back types orders list ≡ back
    → cond back (Some WrongOrder) None ≡ list_fault most types orders list
fault-behind most types orders list back within named classed few kinds apart is =
    sym (rw (
      named,
      classed,
      le-ltb most (length (enrolled_all list types)) few,
      kinds,
      apart,
      turns_round-back types orders list within apart,
      is,
    ) refl)
