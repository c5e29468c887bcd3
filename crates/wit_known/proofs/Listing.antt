-- Static lists entry by entry, as loops go over them.
use Rattle.std.proofs.Common.{◌≡◌, ℕ, ◌+◌, ◌<◌, ◌≤◌, Bool, true, false, not, ◌||◌, cond, List, []}
use Rattle.std.proofs.Common.{◌∷◌, ◌++◌, length, map, take, drop, get_or, String, string_bytes}
use Rattle.std.proofs.Common.{refl, ap, ap₂, sym, ◌∙◌, subst, arith, length-append}
use Rattle.std.specs.List.{list_any}
use Rattle.std.specs.Global.{Global}
use Rattle.std.specs.Str.{bytes_eq}
use Rattle.std.proofs.lemmas.Bool.{false≢true}
use Rattle.std.proofs.lemmas.Slice.Eq.{bytes_eq-Decides}
use Rattle.std.proofs.lemmas.List.{drop_more, take_more, map-append, length-drop}
use Rattle.std.proofs.lemmas.List.Folds.{list_any-append, list_any_at, list_any_none}
use Rattle.wit_model.specs.declared.locks.Class.{Class}
use Rattle.wit_model.specs.declared.locks.LockType.{LockType}
use Rattle.wit_model.specs.declared.locks.Origin.TheVariants.{Listed}
use Rattle.wit_model.specs.declared.calls.Adoption.{Adoption}
use Rattle.wit_model.specs.Rules.Types.{is_named, is_enrolled, type_number, enrolled, enrolled_all}
use Rattle.wit_model.specs.Rules.Orders.{adopted_once, listed_pairs}
use Rattle.wit_model.specs.Rules.Start.{has_twin}
use Rattle.wit_known.specs.Listed.{entry_of, listed}

pub any-map : {X Y : Type 0} (p : Y → Bool) (f : X → Y) (xs : List X)
    → list_any p (map f xs) ≡ list_any (λ x. p (f x)) xs
any-map p f [] = refl
any-map p f (x ∷ xs) = ap (λ b. p (f x) || b) (any-map p f xs)

-- what stands at a place, and what follows
pub item-at : {X : Type 0} (xs : List X) (i : ℕ) (x : X) → x ≡ get_or xs i x → i < length xs
    → drop i xs ≡ x ∷ drop (i + 1) xs
item-at xs i x is lt = drop_more xs i x lt ∙ ap (λ y. y ∷ drop (i + 1) xs) (sym is)

pub two-at : {X : Type 0} (xs : List X) (i j : ℕ) (a b : X) → j ≡ i + 1 → j < length xs
    → a ≡ get_or xs i a → b ≡ get_or xs j b → drop i xs ≡ a ∷ b ∷ drop (j + 1) xs
two-at xs i j a b e lt is_a is_b =
    item-at xs i a is_a (omega arith)
    ∙ ap (λ ys. a ∷ ys) (ap (λ n. drop n xs) (sym e) ∙ item-at xs j b is_b lt)

-- neighbours of one name
pub twin-step : (list : List (Class × String Global)) (i j m : ℕ) (a b : Class × String Global)
    (whole : Bool) → j ≡ i + 1 → m ≡ j → j < length list
    → a ≡ get_or list i a → b ≡ get_or list j b
    → bytes_eq (string_bytes a.1) (string_bytes b.1) ≡ false
    → has_twin (listed (drop i list)) ≡ whole → has_twin (listed (drop m list)) ≡ whole
twin-step list i j m a b whole e f lt is_a is_b differ was =
    ap (λ n. has_twin (listed (drop n list))) f
    ∙ (ap (λ ys. has_twin (listed ys)) (item-at list j b is_b lt)
    ∙ (ap (λ t. t || has_twin (listed (b ∷ drop (j + 1) list))) (sym differ)
    ∙ (ap (λ ys. has_twin (listed ys)) (sym (two-at list i j a b e lt is_a is_b)) ∙ was)))

pub twin-here : (list : List (Class × String Global)) (i j : ℕ) (a b : Class × String Global)
    (whole : Bool) → j ≡ i + 1 → j < length list
    → a ≡ get_or list i a → b ≡ get_or list j b
    → bytes_eq (string_bytes a.1) (string_bytes b.1) ≡ true
    → has_twin (listed (drop i list)) ≡ whole → true ≡ whole
twin-here list i j a b whole e lt is_a is_b same was =
    ap (λ t. t || has_twin (listed (b ∷ drop (j + 1) list))) (sym same)
    ∙ (ap (λ ys. has_twin (listed ys)) (sym (two-at list i j a b e lt is_a is_b)) ∙ was)

no-twin : (list : List (Class × String Global)) → length list ≤ 1 → has_twin (listed list) ≡ false
no-twin [] few = refl
no-twin (a ∷ []) few = refl
no-twin (a ∷ b ∷ list) few = absurd (omega (arith, few))

pub twin-end : (list : List (Class × String Global)) (i : ℕ) (whole : Bool) → length list ≤ i + 1
    → has_twin (listed (drop i list)) ≡ whole → false ≡ whole
twin-end list i whole past was =
    sym (no-twin (drop i list) (let e = length-drop i list in omega (arith, e, past))) ∙ was

-- the orders of neighbours
pub adopt-step : (types : List LockType) (list : List (Class × String Global)) (i j m : ℕ)
    (a b : Class × String Global) (p c : ℕ) (orders next whole : List Adoption)
    → j ≡ i + 1 → m ≡ j → j < length list → a ≡ get_or list i a → b ≡ get_or list j b
    → p ≡ type_number (string_bytes a.1) types → c ≡ type_number (string_bytes b.1) types
    → next ≡ adopted_once p c Listed orders
    → listed_pairs types (listed (drop i list)) orders ≡ whole
    → listed_pairs types (listed (drop m list)) next ≡ whole
adopt-step types list i j m a b p c orders next whole e f lt is_a is_b is_p is_c is was =
    ap (λ n. listed_pairs types (listed (drop n list)) next) f
    ∙ (ap (λ ys. listed_pairs types (listed ys) next) (item-at list j b is_b lt)
    ∙ (ap (λ os. listed_pairs types (listed (b ∷ drop (j + 1) list)) os)
    (is ∙ ap₂ (λ x y. adopted_once x y Listed orders) is_p is_c)
    ∙ (ap (λ ys. listed_pairs types (listed ys) orders)
    (sym (two-at list i j a b e lt is_a is_b)) ∙ was)))

no-pair : (types : List LockType) (list : List (Class × String Global)) (orders : List Adoption)
    → length list ≤ 1 → listed_pairs types (listed list) orders ≡ orders
no-pair types [] orders few = refl
no-pair types (a ∷ []) orders few = refl
no-pair types (a ∷ b ∷ list) orders few = absurd (omega (arith, few))

pub adopt-end : (types : List LockType) (list : List (Class × String Global)) (i : ℕ)
    (orders whole : List Adoption) → length list ≤ i + 1
    → listed_pairs types (listed (drop i list)) orders ≡ whole → orders ≡ whole
adopt-end types list i orders whole past was =
    sym (no-pair types (drop i list) orders (let e = length-drop i list in omega (arith, e, past)))
    ∙ was

-- types, enrolled one by one
pub enroll-step : (list : List (Class × String Global)) (i : ℕ) (a : Class × String Global)
    (types next whole : List LockType) → i < length list → a ≡ get_or list i a
    → next ≡ enrolled (string_bytes a.1) a.0 types
    → enrolled_all (listed (drop i list)) types ≡ whole
    → enrolled_all (listed (drop (i + 1) list)) next ≡ whole
enroll-step list i a types next whole lt is_a is was =
    ap (λ ts. enrolled_all (listed (drop (i + 1) list)) ts) is
    ∙ (ap (λ ys. enrolled_all (listed ys) types) (sym (item-at list i a is_a lt)) ∙ was)

-- one of these entries is back, or none
pub behind-none : (p : Class × List ℕ → Bool) (list : List (Class × String Global))
    → ((k : ℕ) (d : Class × String Global) → k < length list
    → p (entry_of (get_or list k d)) ≡ false)
    → false ≡ list_any p (listed list)
behind-none p list none =
    sym (any-map p entry_of list ∙ list_any_none (λ e. p (entry_of e)) list (λ k d lt. none k d lt))

pub behind-here : (p : Class × List ℕ → Bool) (list : List (Class × String Global)) (i : ℕ)
    (a : Class × String Global) → i < length list → a ≡ get_or list i a
    → p (entry_of a) ≡ true → true ≡ list_any p (listed list)
behind-here p list i a lt is_a is =
    sym (any-map p entry_of list ∙ list_any_at (λ e. p (entry_of e)) list i a lt
    (ap (λ e. p (entry_of e)) (sym is_a) ∙ is))

-- how many types there are
enrolled-more : (xs : List (Class × List ℕ)) (e : Class × List ℕ) (types : List LockType)
    → enrolled_all (xs ++ e ∷ []) types ≡ enrolled e.1 e.0 (enrolled_all xs types)
enrolled-more [] e types = refl
enrolled-more (x ∷ xs) e types = enrolled-more xs e (enrolled x.1 x.0 types)

or-none : (b : Bool) → (b || false) ≡ b
or-none true = refl
or-none false = refl

or-assoc : (a b c : Bool) → ((a || b) || c) ≡ (a || (b || c))
or-assoc true b c = refl
or-assoc false b c = refl

absorbed : (b j : Bool) → (j ≡ true → b ≡ true) → b ≡ (b || j)
absorbed true j e = refl
absorbed false true e = absurd (false≢true (e refl))
absorbed false false e = refl

known-one : (name other : List ℕ) (class : Class) (types : List LockType)
    → is_enrolled name (enrolled other class types)
    ≡ (is_enrolled name types || bytes_eq other name)
known-one name other class types = go (is_enrolled other types) refl
  where
    go : (b : Bool) → is_enrolled other types ≡ b
        → is_enrolled name (cond b types (types ++ record { name = other; class = class } ∷ []))
        ≡ (is_enrolled name types || bytes_eq other name)
    go true is =
        absorbed (is_enrolled name types) (bytes_eq other name)
        (λ same. subst (λ n. is_enrolled n types ≡ true)
        ((bytes_eq-Decides other name).0 same) is)
    go false is =
        list_any-append (is_named name) types (record { name = other; class = class } ∷ [])
        ∙ ap (λ b. is_enrolled name types || b) (or-none (bytes_eq other name))

known-all : (name : List ℕ) (xs : List (Class × List ℕ)) (types : List LockType)
    → is_enrolled name (enrolled_all xs types)
    ≡ (is_enrolled name types || list_any (λ (e : Class × List ℕ). bytes_eq e.1 name) xs)
known-all name [] types = sym (or-none (is_enrolled name types))
known-all name (x ∷ xs) types =
    known-all name xs (enrolled x.1 x.0 types)
    ∙ (ap (λ b. b || list_any (λ (e : Class × List ℕ). bytes_eq e.1 name) xs)
    (known-one name x.1 x.0 types)
    ∙ or-assoc (is_enrolled name types) (bytes_eq x.1 name)
    (list_any (λ (e : Class × List ℕ). bytes_eq e.1 name) xs))

pub length-one : (name : List ℕ) (class : Class) (types : List LockType)
    → length (enrolled name class types) ≡ length types + cond (is_enrolled name types) 0 1
length-one name class types = go (is_enrolled name types)
  where
    go : (b : Bool) → length (cond b types (types ++ record { name = name; class = class } ∷ []))
        ≡ length types + cond b 0 1
    go true = omega arith
    go false = length-append types (record { name = name; class = class } ∷ [])

types-step : (types : List LockType) (list : List (Class × String Global)) (i : ℕ) (a : Class
    × String Global) → i < length list → a ≡ get_or list i a
    → length (enrolled_all (listed (take (i + 1) list)) types)
    ≡ length (enrolled_all (listed (take i list)) types)
    + cond (is_enrolled (string_bytes a.1) types
    || list_any (λ (e : Class × List ℕ). bytes_eq e.1 (string_bytes a.1))
    (listed (take i list))) 0 1
types-step types list i a lt is_a =
    ap (λ ys. length (enrolled_all ys types))
    (ap listed (take_more list i a lt ∙ ap (λ x. take i list ++ x ∷ []) (sym is_a))
    ∙ map-append entry_of (take i list) (a ∷ []))
    ∙ (ap length (enrolled-more (listed (take i list)) (entry_of a) types)
    ∙ (length-one (string_bytes a.1) a.0 (enrolled_all (listed (take i list)) types)
    ∙ ap (λ b. length (enrolled_all (listed (take i list)) types) + cond b 0 1)
    (known-all (string_bytes a.1) (listed (take i list)) types)))

pub types-next : (types : List LockType) (list : List (Class × String Global)) (i : ℕ) (a : Class
    × String Global) (new : Bool) (count next : ℕ) → i < length list
    → a ≡ get_or list i a
    → new ≡ not (is_enrolled (string_bytes a.1) types
    || list_any (λ (e : Class × List ℕ). bytes_eq e.1 (string_bytes a.1))
    (listed (take i list)))
    → next ≡ count + cond new 1 0 → count ≡ length (enrolled_all (listed (take i list)) types)
    → next ≡ length (enrolled_all (listed (take (i + 1) list)) types)
types-next types list i a new count next lt is_a is step was =
    step ∙ (ap₂ (λ n b. n + cond b 1 0) was is
    ∙ (turned _ _ ∙ sym (types-step types list i a lt is_a)))
  where
    turned : (n : ℕ) (b : Bool) → n + cond (not b) 1 0 ≡ n + cond b 0 1
    turned n true = refl
    turned n false = refl
