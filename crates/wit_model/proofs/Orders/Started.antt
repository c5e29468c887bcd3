-- What a start that isn't refused gives: orders by which no type is before itself, among types
-- within their limit.
use Rattle.std.proofs.Common.{◌≡◌, ℕ, ◌+◌, ◌≤◌, Bool, true, false, cond, nat_lt, List, [], ◌∷◌}
use Rattle.std.proofs.Common.{length, get_or, Option, Some, None, refl, ap, sym, ◌∙◌, arith}
use Rattle.std.specs.List.{list_any, list_all, position_or_len}
use Rattle.std.specs.Option.{option_or}
use Rattle.std.specs.Str.{bytes_eq}
use Rattle.std.proofs.lemmas.Bool.{and_parts, and_from, or_parts, true≢false, false≢true, ltb-false}
use Rattle.std.proofs.lemmas.Slice.Eq.{bytes_eq-Decides}
use Rattle.std.proofs.lemmas.List.Sums.{passes_at_first}
use Rattle.wit_model.specs.declared.faults.Fault.{Fault}
use Rattle.wit_model.specs.declared.locks.Class.{Class}
use Rattle.wit_model.specs.declared.locks.Class.TheVariants.{SleepMutex}
use Rattle.wit_model.specs.declared.locks.Origin.TheVariants.{Listed}
use Rattle.wit_model.specs.declared.calls.Adoption.{Adoption}
use Rattle.wit_model.specs.Rules.Types.{LockType, is_named, is_enrolled, type_number, enrolled}
use Rattle.wit_model.specs.Rules.Types.{enrolled_all, listed_types}
use Rattle.wit_model.specs.Rules.Orders.{is_direct, is_before, IsPath, IsSound, adopted_once}
use Rattle.wit_model.specs.Rules.Orders.{listed_pairs, listed_orders}
use Rattle.wit_model.specs.Rules.State.{Start, types_of, orders_of}
use Rattle.wit_model.specs.Rules.Start.{is_misclassed, has_both_kinds, has_twin, turns_round}
use Rattle.wit_model.specs.Rules.Start.{list_fault, numbered, lists_fault, start_fault}
use Rattle.wit_model.specs.Rules.Start.{blessed_fault}
use Rattle.wit_model.proofs.Orders.Paths.{sound_adopt}
use Rattle.wit_model.proofs.Orders.Types.{enrolled-stays, enrolled-itself, place-within}

-- a name of a list is enrolled once the list is entered
pub enrolled-behind : (name : List ℕ) (list : List (Class × List ℕ)) (types : List LockType)
    → is_enrolled name types ≡ true → is_enrolled name (enrolled_all list types) ≡ true
enrolled-behind name [] types is = is
enrolled-behind name (e ∷ list) types is =
    enrolled-behind name list (enrolled e.1 e.0 types) (enrolled-stays name e.1 e.0 types is)

pub all-enrolled : (list : List (Class × List ℕ)) (types : List LockType)
    → list_all (λ (e : Class × List ℕ). is_enrolled e.1 (enrolled_all list types)) list ≡ true
all-enrolled [] types = refl
all-enrolled (e ∷ list) types =
    and_from (is_enrolled e.1 (enrolled_all (e ∷ list) types))
    (list_all (λ (e' : Class × List ℕ). is_enrolled e'.1 (enrolled_all (e ∷ list) types)) list)
    (enrolled-behind e.1 list (enrolled e.1 e.0 types) (enrolled-itself e.1 e.0 types))
    (all-enrolled list (enrolled e.1 e.0 types))

no_type : LockType
no_type = record { name = []; class = SleepMutex }

named-there : (name : List ℕ) (types : List LockType) → is_enrolled name types ≡ true
    → (get_or types (position_or_len (is_named name) types) no_type).name ≡ name
named-there name types is =
    (bytes_eq-Decides (get_or types (position_or_len (is_named name) types) no_type).name name).0
    (passes_at_first (is_named name) types no_type (place-within (is_named name) types is))

-- two names have two numbers
pub one_name : (a b : List ℕ) (types : List LockType) → is_enrolled a types ≡ true
    → is_enrolled b types ≡ true → type_number a types ≡ type_number b types → a ≡ b
one_name a b types known_a known_b same =
    let e : position_or_len (is_named a) types ≡ position_or_len (is_named b) types =
    omega (arith, same) in
    sym (named-there a types known_a)
    ∙ (ap (λ p. (get_or types p no_type).name) e ∙ named-there b types known_b)

-- an order that isn't turned round is adopted soundly
sound_once : (p c : ℕ) (orders : List Adoption) → IsSound orders → is_before orders c p ≡ false
    → (p ≡ c → ⊥) → IsSound (adopted_once p c Listed orders)
sound_once p c orders sound forward apart = go (is_direct orders p c)
  where
    go : (b : Bool) → IsSound (cond b orders
        (record { parent = record { 0 = p }; child = record { 0 = c }; origin = Listed } ∷ orders))
    go true = sound
    go false =
        sound_adopt (record {
          parent = record { 0 = p };
          child = record { 0 = c };
          origin = Listed;
        }) orders sound forward apart

sound_list : (types : List LockType) (list : List (Class × List ℕ)) (orders : List Adoption)
    → list_all (λ (e : Class × List ℕ). is_enrolled e.1 types) list ≡ true
    → has_twin list ≡ false → turns_round types orders list ≡ false → IsSound orders
    → IsSound (listed_pairs types list orders)
sound_list types [] orders known apart forward sound = sound
sound_list types (a ∷ []) orders known apart forward sound = sound
sound_list types (a ∷ b ∷ list) orders known apart forward sound =
    let here =
    and_parts (is_enrolled a.1 types)
    (list_all (λ (e : Class × List ℕ). is_enrolled e.1 types) (b ∷ list)) known in
    let next =
    and_parts (is_enrolled b.1 types)
    (list_all (λ (e : Class × List ℕ). is_enrolled e.1 types) list) here.1 in
    let differ = or_parts (bytes_eq a.1 b.1) (has_twin (b ∷ list)) apart in
    let on = or_parts (is_before orders (type_number b.1 types) (type_number a.1 types))
    (turns_round types (adopted_once (type_number a.1 types) (type_number b.1 types) Listed orders)
    (b ∷ list)) forward in
    sound_list types (b ∷ list) (adopted_once (type_number a.1 types)
    (type_number b.1 types) Listed orders) here.1 differ.1 on.1
    (sound_once (type_number a.1 types) (type_number b.1 types) orders sound on.0
    (λ same. true≢false (sym ((bytes_eq-Decides a.1 b.1).1
    (one_name a.1 b.1 types here.0 next.0 same)) ∙ differ.0)))

no_fault : (b : Bool) (f : Fault) (rest : Option Fault) → cond b (Some f) rest ≡ None
    → (b ≡ false) × (rest ≡ None)
no_fault true f rest none = (cc)
no_fault false f rest none = (refl, none)

-- what the acceptance of a list says
pub record IsGoodList (most : ℕ) (types : List LockType) (orders : List Adoption)
    (list : List (Class × List ℕ)) : Type 0 where
  pub few : length (enrolled_all list types) ≤ most
  pub apart : has_twin list ≡ false
  pub forward : turns_round (enrolled_all list types) orders list ≡ false

pub list_accepted : (most : ℕ) (types : List LockType) (orders : List Adoption)
    (list : List (Class × List ℕ)) → list_fault most types orders list ≡ None
    → IsGoodList most types orders list
list_accepted most types orders list none =
    let a = no_fault _ _ _ none in
    let b = no_fault (list_any (is_misclassed types list) list) _ _ a.1 in
    let c = no_fault (nat_lt most (length (enrolled_all list types))) _ _ b.1 in
    let d = no_fault (has_both_kinds list) _ _ c.1 in
    let e = no_fault (has_twin list) _ _ d.1 in
    let f = no_fault (turns_round (enrolled_all list types) orders list) _ _ e.1 in
    record {
      few = ltb-false most (length (enrolled_all list types)) c.0;
      apart = e.0;
      forward = f.0;
    }

pub neither : {X : Type 0} (o p : Option X) → option_or o p ≡ None → (o ≡ None) × (p ≡ None)
neither None p none = (refl, none)
neither (Some x) p none = (cc)

pub unnumbered : (n : ℕ) (o : Option Fault) → numbered n o ≡ None → o ≡ None
unnumbered n None none = refl
unnumbered n (Some f) none = (cc)

sound_lists : (most n : ℕ) (lists : List (List (Class × List ℕ))) (types : List LockType)
    (orders : List Adoption) → lists_fault most n lists types orders ≡ None
    → IsSound orders → IsSound (listed_orders lists types orders)
sound_lists most n [] types orders none sound = sound
sound_lists most n (list ∷ lists) types orders none sound =
    let parts = neither (numbered n (list_fault most types orders list)) _ none in
    let good =
    list_accepted most types orders list
    (unnumbered n (list_fault most types orders list) parts.0) in
    sound_lists most (n + 1) lists (enrolled_all list types)
    (listed_pairs (enrolled_all list types) list orders) parts.1
    (sound_list (enrolled_all list types) list orders (all-enrolled list types) good.apart
    good.forward sound)

few_lists : (most n : ℕ) (lists : List (List (Class × List ℕ))) (types : List LockType)
    (orders : List Adoption) → lists_fault most n lists types orders ≡ None
    → length types ≤ most → length (listed_types lists types) ≤ most
few_lists most n [] types orders none few = few
few_lists most n (list ∷ lists) types orders none few =
    let parts = neither (numbered n (list_fault most types orders list)) _ none in
    let good =
    list_accepted most types orders list
    (unnumbered n (list_fault most types orders list) parts.0) in
    few_lists most (n + 1) lists (enrolled_all list types)
    (listed_pairs (enrolled_all list types) list orders) parts.1 good.few

lists_accepted : (start : Start) → start_fault start ≡ None
    → lists_fault start.sizes.types 1 start.lists [] [] ≡ None
lists_accepted start none =
    (neither (lists_fault start.sizes.types 1 start.lists [] [])
    (blessed_fault start.blessed) none).0

none_sound : IsSound []
none_sound = λ a path. nothing_direct a a path.0 path.1
  where
    nothing_direct : (a b : ℕ) (way : List ℕ) → IsPath [] a way b → ⊥
    nothing_direct a b [] p = false≢true p
    nothing_direct a b (v ∷ way) p = false≢true p.0

-- an accepted start puts no type before itself
pub sound_started : (start : Start) → start_fault start ≡ None → IsSound (orders_of start [])
sound_started start none =
    sound_lists start.sizes.types 1 start.lists [] [] (lists_accepted start none) none_sound

-- and has types within their limit
pub types_started : (start : Start) → start_fault start ≡ None
    → length (types_of start []) ≤ start.sizes.types
types_started start none =
    few_lists start.sizes.types 1 start.lists [] [] (lists_accepted start none) (omega arith)
