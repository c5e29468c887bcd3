-- What an accepted list is entered by: its types can be enrolled one by one, its orders adopted one
-- by one.
use Rattle.std.proofs.Common.{◌≡◌, ℕ, ◌+◌, ◌<◌, ◌≤◌, Bool, true, false, not, ◌&&◌, ◌||◌, cond}
use Rattle.std.proofs.Common.{nat_le, List, [], ◌∷◌, ◌++◌, length, drop, get_or, None, IsOk, String}
use Rattle.std.proofs.Common.{string_bytes, refl, ap, ap₂, sym, ◌∙◌, subst, arith, length-append}
use Rattle.std.proofs.Common.{⊎_elim}
use Rattle.std.specs.List.{list_any, list_all}
use Rattle.std.specs.Global.{Global}
use Rattle.std.specs.Str.{bytes_eq}
use Rattle.std.proofs.lemmas.Bool.{and_parts, or_parts, lt-leb, true≢false, false≢true}
use Rattle.std.proofs.lemmas.Slice.Eq.{bytes_eq-Decides}
use Rattle.std.proofs.lemmas.List.Folds.{list_any-append}
use Rattle.wit_model.specs.declared.faults.Fault.{Fault}
use Rattle.wit_model.specs.declared.faults.Fault.TheVariants.{OutOfMemory}
use Rattle.wit_model.specs.declared.locks.Class.{Class}
use Rattle.wit_model.specs.declared.locks.LockType.{LockType}
use Rattle.wit_model.specs.declared.locks.Origin.TheVariants.{Listed}
use Rattle.wit_model.specs.declared.calls.Adoption.{Adoption}
use Rattle.wit_model.specs.Rules.Names.{is_name}
use Rattle.wit_model.specs.Rules.Types.{is_named, is_same_class, is_enrolled, is_otherwise}
use Rattle.wit_model.specs.Rules.Types.{type_number, enrolled, enrolled_all}
use Rattle.wit_model.specs.Rules.Orders.{is_before, adopted_once}
use Rattle.wit_model.specs.Rules.Start.{is_misclassed, has_twin, turns_round, list_fault}
use Rattle.wit_model.specs.Rules.Refusals.{IsRefusal}
use Rattle.wit_model.proofs.Orders.Types.{number-known}
use Rattle.wit_model.proofs.Orders.Started.{all-enrolled, one_name, list_accepted}
use Rattle.wit_table.specs.Known.{Names, enroll_answer, with_type}
use Rattle.wit_known.specs.Ordering.{Ordering}
use Rattle.wit_known.specs.Following.{CanFollow}
use Rattle.wit_known.specs.Listed.{entry_of, listed, CanBeEnrolled, CanBeAdopted, KeepsRest}
use Rattle.wit_known.proofs.Listing.{item-at, two-at, length-one, enroll-step}
use Rattle.wit_known.proofs.Going.{more-types}
use Rattle.wit_known.proofs.LiveFlags.{live_of-enrolled}

-- once the types of an accepted list are enrolled, its orders can be adopted
pub can-adopt : (most : ℕ) (types : List LockType) (orders : List Adoption)
    (list : List (Class × List ℕ)) → list_fault most types orders list ≡ None
    → CanBeAdopted (enrolled_all list types) orders list
can-adopt most types orders list none =
    let good = list_accepted most types orders list none in
    record { known = all-enrolled list types; apart = good.apart; forward = good.forward }

any-fewer : {X : Type 0} (p q : X → Bool) (xs : List X) → ((x : X) → p x ≡ false → q x ≡ false)
    → list_any p xs ≡ false → list_any q xs ≡ false
any-fewer p q [] fewer none = refl
any-fewer p q (x ∷ xs) fewer none =
    let parts =
    or_parts (p x) (list_any p xs) none in
    ap₂ (λ a b. a || b) (fewer x parts.0) (any-fewer p q xs fewer parts.1)

-- a name isn't enrolled with another class by a name that agrees with it
otherwise-one : (name other : List ℕ) (class its : Class) (types : List LockType)
    → is_otherwise name class types ≡ false
    → (bytes_eq other name && not (is_same_class its class)) ≡ false
    → is_otherwise name class (enrolled other its types) ≡ false
otherwise-one name other class its types none agrees = go (is_enrolled other types)
  where
    go : (b : Bool) → is_otherwise name class
        (cond b types (types ++ record { name = other; class = its } ∷ [])) ≡ false
    go true = none
    go false =
        list_any-append (λ (t : LockType). is_named name t && not (is_same_class t.class class))
        types (record { name = other; class = its } ∷ [])
        ∙ ap₂ (λ a b. a || (b || false)) none agrees

module _ (most : ℕ) (types : List LockType) (e : Class × List ℕ) (list : List (Class × List ℕ))
    (can : CanBeEnrolled most types (e ∷ list)) where
  -- the first type can be enrolled
  pub enrolls-first : IsOk (enroll_answer e.1 e.0 most types)
  enrolls-first =
      let named =
      (or_parts (not (is_name e.1)) (list_any (λ (d : Class × List ℕ). not (is_name d.1)) list)
      can.names).0 in
      let agrees =
      (or_parts (is_misclassed types (e ∷ list) e)
      (list_any (is_misclassed types (e ∷ list)) list) can.classes).0 in
      let known = (or_parts (is_otherwise e.1 e.0 types) _ agrees).0 in
      rw (named, known, room) refl
    where
      go : (b : Bool) → is_enrolled e.1 types ≡ b → (not b && nat_le most (length types)) ≡ false
      go true is = refl
      go false is =
          let one : length (enrolled e.1 e.0 types) ≡ length types + 1 =
          length-one e.1 e.0 types ∙ ap (λ b. length types + cond b 0 1) is in
          let more = more-types list (enrolled e.1 e.0 types) in
          let all : length (enrolled_all list (enrolled e.1 e.0 types))
          ≡ length (enrolled e.1 e.0 types) + length more.0 =
          ap length more.1 ∙ length-append (enrolled e.1 e.0 types) more.0 in
          lt-leb most (length types) (omega (arith, one, all, can.room))

      room : (not (is_enrolled e.1 types) && nat_le most (length types)) ≡ false
      room = go (is_enrolled e.1 types) refl

  -- and then the others
  pub enrolls-rest : CanBeEnrolled most (enrolled e.1 e.0 types) list
  enrolls-rest = record {
    names =
        (or_parts (not (is_name e.1))
        (list_any (λ (d : Class × List ℕ). not (is_name d.1)) list) can.names).1;
    classes =
        any-fewer (is_misclassed types (e ∷ list))
        (is_misclassed (enrolled e.1 e.0 types) list) list agrees
        (or_parts (is_misclassed types (e ∷ list) e)
        (list_any (is_misclassed types (e ∷ list)) list) can.classes).1;
    room = can.room;
  }
    where
      agrees : (d : Class × List ℕ) → is_misclassed types (e ∷ list) d ≡ false
          → is_misclassed (enrolled e.1 e.0 types) list d ≡ false
      agrees d none =
          let a = or_parts (is_otherwise d.1 d.0 types) _ none in
          let b = or_parts (bytes_eq e.1 d.1 && not (is_same_class e.0 d.0)) _ a.1 in
          ap₂ (λ x y. x || y) (otherwise-one d.1 e.1 d.0 e.0 types a.0 b.0) b.1

-- of two neighbours the second can come behind the first
module _ (size : ℕ) (types : List LockType) (orders : List Adoption) (a b : Class × List ℕ)
    (list : List (Class × List ℕ)) (can : CanBeAdopted types orders (a ∷ b ∷ list)) where
  follows : length types ≤ size
      → CanFollow size orders (type_number a.1 types) (type_number b.1 types)
  follows few =
      let here =
      and_parts (is_enrolled a.1 types)
      (list_all (λ (e : Class × List ℕ). is_enrolled e.1 types) (b ∷ list)) can.known in
      let next =
      and_parts (is_enrolled b.1 types)
      (list_all (λ (e : Class × List ℕ). is_enrolled e.1 types) list) here.1 in
      let differ = or_parts (bytes_eq a.1 b.1) (has_twin (b ∷ list)) can.apart in
      let m = number-known a.1 types here.0 in
      let n = number-known b.1 types next.0 in
      record {
        parent = (omega (arith, m.0), omega (arith, m.1, few));
        child = (omega (arith, n.0), omega (arith, n.1, few));
        apart =
            λ same. true≢false (sym ((bytes_eq-Decides a.1 b.1).1
            (one_name a.1 b.1 types here.0 next.0 same)) ∙ differ.0);
        orderly = (or_parts (is_before orders (type_number b.1 types) (type_number a.1 types))
            (turns_round types (adopted_once (type_number a.1 types)
            (type_number b.1 types) Listed orders) (b ∷ list)) can.forward).0;
      }

  -- and then those behind it
  adopts-rest : CanBeAdopted types
      (adopted_once (type_number a.1 types) (type_number b.1 types) Listed orders) (b ∷ list)
  adopts-rest = record {
    known =
        (and_parts (is_enrolled a.1 types)
        (list_all (λ (e : Class × List ℕ). is_enrolled e.1 types) (b ∷ list)) can.known).1;
    apart = (or_parts (bytes_eq a.1 b.1) (has_twin (b ∷ list)) can.apart).1;
    forward = (or_parts (is_before orders (type_number b.1 types) (type_number a.1 types))
        (turns_round types (adopted_once (type_number a.1 types)
        (type_number b.1 types) Listed orders) (b ∷ list)) can.forward).1;
  }

-- the loop over types
module _ (list : List (Class × String Global)) (i : ℕ) (a : Class × String Global) (name : List ℕ)
    (names : Names) (lt : i < length list) (is_a : a ≡ get_or list i a)
    (is_name_of : name ≡ string_bytes a.1)
    (can : CanBeEnrolled names.most_types names.types (listed (drop i list))) where
  here : CanBeEnrolled names.most_types names.types ((a.0, name) ∷ listed (drop (i + 1) list))
  here =
      subst (λ (n : List ℕ). CanBeEnrolled names.most_types names.types
      ((a.0, n) ∷ listed (drop (i + 1) list))) (sym is_name_of)
      (subst (λ ys. CanBeEnrolled names.most_types names.types (listed ys))
      (item-at list i a is_a lt) can)

  pub no-refusal : (fault : Fault)
      → IsRefusal (enroll_answer name a.0 names.most_types names.types) fault → fault ≡ OutOfMemory
  no-refusal fault refusal =
      ⊎_elim (λ is. absurd (false≢true
      (subst IsOk is (enrolls-first names.most_types names.types (a.0, name)
      (listed (drop (i + 1) list)) here)))) (λ out. out.0) refusal

  pub can-step : (next : Names) → next ≡ with_type names name a.0
      → CanBeEnrolled next.most_types next.types (listed (drop (i + 1) list))
  can-step next is =
      subst (λ (n : Names). CanBeEnrolled n.most_types n.types (listed (drop (i + 1) list)))
      (sym is)
      (enrolls-rest names.most_types names.types (a.0, name) (listed (drop (i + 1) list)) here)

  pub types-step : (next : Names) (whole : List LockType) → next ≡ with_type names name a.0
      → enrolled_all (listed (drop i list)) names.types ≡ whole
      → enrolled_all (listed (drop (i + 1) list)) next.types ≡ whole
  types-step next whole is was =
      enroll-step list i a names.types next.types whole lt is_a
      (ap (λ (n : Names). n.types) is ∙ ap (λ n. enrolled n a.0 names.types) is_name_of) was

  pub rest-step : (old next : Names) → next ≡ with_type names name a.0 → KeepsRest old names
      → KeepsRest old next
  rest-step old next is kept =
      subst (KeepsRest old) (sym is)
      (record {
        files = kept.files;
        blessed = kept.blessed;
        most_types = kept.most_types;
        most_files = kept.most_files;
        live =
            λ t. live_of-enrolled names name a.0 t ∙ kept.live t;
      })

-- the loop over neighbours
module _ (types : List LockType) (list : List (Class × String Global)) (i j : ℕ) (a b : Class
    × String Global) (p c : ℕ) (orders : List Adoption)
    (e : j ≡ i + 1) (lt : j < length list) (is_a : a ≡ get_or list i a) (is_b : b ≡ get_or list j b)
    (is_p : p ≡ type_number (string_bytes a.1) types)
    (is_c : c ≡ type_number (string_bytes b.1) types)
    (can : CanBeAdopted types orders (listed (drop i list))) where
  both : CanBeAdopted types orders (listed (a ∷ b ∷ drop (j + 1) list))
  both =
      subst (λ ys. CanBeAdopted types orders (listed ys)) (two-at list i j a b e lt is_a is_b) can

  pub follows-at : (size : ℕ) → length types ≤ size → CanFollow size orders p c
  follows-at size few =
      subst (λ n. CanFollow size orders n c) (sym is_p)
      (subst (CanFollow size orders (type_number (string_bytes a.1) types)) (sym is_c)
      (follows size types orders (entry_of a) (entry_of b)
      (listed (drop (j + 1) list)) both few))

  pub adopts-step : (m : ℕ) (next : List Adoption) → m ≡ j → next ≡ adopted_once p c Listed orders
      → CanBeAdopted types next (listed (drop m list))
  adopts-step m next f is =
      subst (λ n. CanBeAdopted types next (listed (drop n list))) (sym f)
      (subst (λ ys. CanBeAdopted types next (listed ys)) (sym (item-at list j b is_b lt))
      (subst (λ os. CanBeAdopted types os (listed (b ∷ drop (j + 1) list)))
      (sym (is ∙ ap₂ (λ x y. adopted_once x y Listed orders) is_p is_c))
      (adopts-rest 0 types orders (entry_of a) (entry_of b) (listed (drop (j + 1) list)) both)))

-- only the orders have changed
pub orders-alone : (old orders next : Ordering) (more : List Adoption)
    → next ≡ record orders { orders = more; spare = next.spare }
    → orders ≡ record old { orders = orders.orders; spare = orders.spare }
    → next ≡ record old { orders = next.orders; spare = next.spare }
orders-alone old orders next more is was =
    is ∙ (ap (λ (r : Ordering). record r { orders = more; spare = next.spare }) was
    ∙ ap (λ os. record old { orders = os; spare = next.spare })
    (sym (ap (λ (r : Ordering). r.orders) is)))
